-- Where a run of the machine with one bus leads to.
use Rattle.std.specs.Prelude.{◌≡◌, ◌↔◌, Bool, List, Some, IsTrue}
use Rattle.image_load.specs.Start.{Start}
use Rattle.rv_code.specs.Machine.{program}
use Rattle.rules_bus.specs.State.{BusEvent}
use Rattle.rules_bus.specs.Step.{BusHistory, bus_run}
use Rattle.rules_bus.specs.Useful.{BusIsDone}
use Rattle.theorem_bus.specs.Given.{BusSerial, bus_at_start}
use Rattle.theorem_bus.specs.Laws.{AreNumbered}

-- the rules lead from the start by these events to this state, which is done or isn't; its commits, by TIDs from 1, are a serial execution
-- of the plain machine, and what is committed is that machine after them
pub record BusLeadsTo (s : Start) (es : List BusEvent) (done : Bool) (h : BusHistory) : Type 0 where
  pub is_run : bus_run s.settings (program s) (bus_at_start s).world es ≡ Some h
  pub is_done : IsTrue done ↔ BusIsDone s.settings h.world
  pub serial : BusSerial s h
  pub tids : AreNumbered 1 h.commits
