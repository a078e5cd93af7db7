-- What the calls that take events answer.
use Rattle.std.specs.Prelude.{◌+◌, ◌≡◌, ◌≢◌, Option, Some, None, option_map, Result, Ok, Err}
use Rattle.tcc_base.specs.declared.names.Tid.{Tid}
use Rattle.rules_bus.specs.Commit.{BusStepped}
use Rattle.rules_bus.specs.State.{BusEvent}
use Rattle.rules_bus.specs.Step.{bus_next, bus_step}
use Rattle.core_node.specs.declared.delivering.CoreError.{CoreError}
use Rattle.core_node.specs.declared.delivering.CoreError.TheVariants.{Blocked}
use Rattle.core_node.specs.declared.delivering.CoreError.TheVariants as core_error
use Rattle.bus_tcc.specs.Machine.{BusMachine, bus_history_of, bus_program_of, bus_settings_of, bus_world_of}
use Rattle.bus_tcc.specs.declared.event.BusError.{BusError}
use Rattle.bus_tcc.specs.declared.event.BusError.TheVariants.{Refused, Memory}
use Rattle.bus_tcc.specs.declared.event.BusStep.{BusStep}
use Rattle.bus_tcc.specs.declared.event.BusStep.TheVariants.{Moved, Committed}

-- why a core's event wasn't taken
abbrev pub refusal_of : CoreError → BusError
refusal_of Blocked = Refused
refusal_of core_error.Memory = Memory

-- what the rules make of an event in this state; None: it isn't enabled
abbrev pub bus_step_of : BusMachine → BusEvent → Option BusStepped
bus_step_of m e = bus_step (bus_settings_of m) (bus_program_of m) (bus_world_of m) e

abbrev pub tid_told : BusStep → Option Tid
tid_told Moved = None
tid_told (Committed t) = Some t

-- the TID of the commit that the event notes
abbrev pub tid_noted : Option BusStepped → Option Tid
tid_noted None = None
tid_noted (Some o) = option_map (λ c. c.tid) o.noted

-- the event was taken
pub record Took (old new : BusMachine) (e : BusEvent) (told : BusStep) : Type 0 where
  pub next : bus_next (bus_settings_of old) (bus_program_of old) (bus_history_of old) e ≡ Some (bus_history_of new)
  pub tells : tid_told told ≡ tid_noted (bus_step_of old e)
  pub events : new.events ≡ old.events + 1
  pub code : new.code ≡ old.code

-- nothing happened
pub record Kept (old new : BusMachine) : Type 0 where
  pub history : bus_history_of new ≡ bus_history_of old
  pub events : new.events ≡ old.events
  pub code : new.code ≡ old.code

-- the event was taken, or isn't enabled, or memory was wanting for it; then nothing happened
abbrev pub Answers : (old new : BusMachine) → BusEvent → Result BusStep BusError → Type 0
Answers old new e (Ok told) = Took old new e told
Answers old new e (Err Refused) = Kept old new × (bus_step_of old e ≡ None)
Answers old new e (Err Memory) = Kept old new × (bus_step_of old e ≢ None)
