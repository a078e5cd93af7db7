-- What `watch_bus` answers.
use Rattle.std.specs.Prelude.{◌≡◌, ◌≢◌, ◌+◌, List, map, Some, None, Result, Ok, Err}
use Rattle.rules_bus.specs.State.{BusEvent}
use Rattle.rules_bus.specs.Step.{bus_next}
use Rattle.bus_tcc.specs.Answers.{Kept, bus_step_of}
use Rattle.bus_tcc.specs.Machine.{BusMachine, bus_history_of, bus_program_of, bus_settings_of}
use Rattle.bus_tcc.specs.declared.event.BusError.{BusError}
use Rattle.bus_tcc.specs.declared.event.BusError.TheVariants.{Refused, Memory}
use Rattle.bus_watch.specs.Happened.{bus_happened}
use Rattle.bus_watch.specs.Plain.{bus_fact_of}
use Rattle.bus_watch.specs.declared.fact.BusFact.{BusFact}

-- the event was taken, and these facts are what it did
pub record BusTookAndTold (old new : BusMachine) (e : BusEvent) (facts : List BusFact) : Type 0 where
  pub next : bus_next (bus_settings_of old) (bus_program_of old) (bus_history_of old) e ≡ Some (bus_history_of new)
  pub told : map bus_fact_of facts ≡ bus_happened (bus_settings_of old) (bus_program_of old) (bus_history_of old) e
  pub events : new.events ≡ old.events + 1
  pub code : new.code ≡ old.code

-- or it isn't enabled, and nothing happened; or memory was wanting
abbrev pub BusWatched : (old new : BusMachine) → BusEvent → List BusFact → Result (Unit {0}) BusError → Type 0
BusWatched old new e facts (Ok u) = BusTookAndTold old new e facts
BusWatched old new e facts (Err Refused) = Kept old new × (bus_step_of old e ≡ None)
BusWatched old new e facts (Err Memory) = bus_step_of old e ≢ None
