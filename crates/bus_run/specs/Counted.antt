-- What is counted of a run of the machine with one bus.
use Rattle.std.specs.Prelude.{ℕ, ◌≡◌, Bool, List, [], ◌∷◌, Option, Some, None, length}
use Rattle.image_load.specs.Start.{Start}
use Rattle.rv_code.specs.Machine.{program}
use Rattle.rules_maps.specs.Shape.{Shape}
use Rattle.rules_program.specs.Program.{Program}
use Rattle.rules_bus.specs.State.{BusEvent}
use Rattle.rules_bus.specs.Step.{BusHistory, bus_next}
use Rattle.theorem_bus.specs.Given.{bus_at_start}
use Rattle.bus_tool.specs.Running.{bus_picked_by}
use Rattle.bus_watch.specs.Facts.{BusFact}
use Rattle.bus_watch.specs.Happened.{bus_happened, core_of}
use Rattle.bus_count.specs.Counts.{BusCounts, bus_run_counted, nothing_on_bus}
use Rattle.bus_run.specs.Leading.{BusLeadsTo}

abbrev pub and_later : ℕ × List BusFact → (BusHistory → List (ℕ × List BusFact)) → Option BusHistory → List (ℕ × List BusFact)
and_later first later None = []
and_later first later (Some h) = first ∷ later h

-- each event's core and its facts, from this state on, up to the first that isn't enabled
unfoldable pub bus_run_facts : Shape → Program → List BusEvent → BusHistory → List (ℕ × List BusFact)
bus_run_facts sh p [] h = []
bus_run_facts sh p (e ∷ es) h = and_later (core_of e, bus_happened sh p h e) (bus_run_facts sh p es) (bus_next sh p h e)

-- what is counted of a run by these events
unfoldable pub counts_of_bus_run : Start → List BusEvent → BusCounts
counts_of_bus_run s es = bus_run_counted (bus_run_facts s.settings (program s) es (bus_at_start s)) (nothing_on_bus s.settings.cores)

-- the run by the schedule that a seed picks was counted to its end
pub record IsBusCounted (s : Start) (seed steps : ℕ) (done : Bool) (events : ℕ) (counts : BusCounts) : Type 0 where
  pub ends : BusHistory
  pub leads : BusLeadsTo s (bus_picked_by s seed steps) done ends
  pub all : events ≡ length (bus_picked_by s seed steps)
  pub counted : counts ≡ counts_of_bus_run s (bus_picked_by s seed steps)
