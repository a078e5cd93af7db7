-- Runs of the machine with one bus.
use Rattle.std.specs.Prelude.{ℕ, Bool, List, length, ◌≡◌, ◌↔◌, Some, IsTrue}
use Rattle.image_load.specs.Start.{Start}
use Rattle.rv_code.specs.Machine.{program}
use Rattle.rules_bus.specs.State.{BusEvent}
use Rattle.rules_bus.specs.Step.{BusHistory, bus_run}
use Rattle.rules_bus.specs.Useful.{BusIsDone}
use Rattle.theorem_bus.specs.Given.{BusSerial, bus_at_start}
use Rattle.theorem_bus.specs.Laws.{AreNumbered}
use Rattle.bus_tool.specs.Report.{bus_run_text}
use Rattle.bus_tool.specs.Running.{bus_picked_by}

-- the rules of the machine with one bus lead by these events to this state, with these commits
abbrev pub IsBusRun : Start → List BusEvent → BusHistory → Type 0
IsBusRun s es h = bus_run s.settings (program s) (bus_at_start s).world es ≡ Some h

-- A run of these rules. The headline, as that of `RunsTo`: its commits are a serial execution of the plain machine, and what is
-- committed, with memory, is that machine after them; and they are numbered 1, 2, 3 and so on. `done` is whether every core has halted
-- and no packet is on the bus.
pub record BusRunsTo (s : Start) (es : List BusEvent) (done : Bool) (h : BusHistory) : Type 0 where
  pub is_run : IsBusRun s es h
  pub is_done : IsTrue done ↔ BusIsDone s.settings h.world
  pub serial : BusSerial s h
  pub tids : AreNumbered 1 h.commits

-- the run by the schedule that a seed picks, and its report
pub record RanOnBus (s : Start) (seed steps : ℕ) (done : Bool) (text : List ℕ) : Type 0 where
  pub ends : BusHistory
  pub runs : BusRunsTo s (bus_picked_by s seed steps) done ends
  pub text_is : text ≡ bus_run_text s done (length (bus_picked_by s seed steps)) ends
