-- What a trace of the machine with one bus has written while its run goes on.
use Rattle.std.specs.Prelude.{ℕ, ◌⊎◌, Bool, true, false, List, ◌++◌, Option}
use Rattle.std.specs.Io.KnownBytes.{Appends}
use Rattle.image_load.specs.Start.{Start}
use Rattle.rv_code.specs.Machine.{program}
use Rattle.tcc_world.specs.Faults.{Rose}
use Rattle.rules_bus.specs.State.{BusEvent}
use Rattle.rules_bus.specs.Step.{BusHistory}
use Rattle.theorem_bus.specs.Given.{bus_at_start}
use Rattle.bus_tool.specs.Running.{bus_picked_by}
use Rattle.bus_trace.specs.Text.{bus_head_text, bus_text_from, bus_trace_text}
use Rattle.bus_changes.specs.Text.{bus_shown_from, bus_states_text, bus_with_records}
use Rattle.text_runs.specs.Pieces.{IsCut, IsPart}
use Rattle.tcc_world.specs.Page.{Written}
use Rattle.text_runs.specs.declared.pieces.Broken.{Broken}
use Rattle.text_runs.specs.declared.pieces.Broken.TheVariants.{Memory, Output}
use Rattle.bus_run.specs.Leading.{BusLeadsTo}

-- the trace of the run by these events, from number `from` on, with records or without
abbrev pub bus_trace_of : (states : Bool) → Start → (from : ℕ) → List BusEvent → (done : Bool) → List ℕ
bus_trace_of false s from es done = bus_trace_text s (bus_at_start s).world from es done
bus_trace_of true s from es done = bus_states_text s (bus_at_start s).world from es done

-- and by the schedule that a seed picks
abbrev pub bus_trace_by : (states : Bool) → Start → (seed steps from : ℕ) → (done : Bool) → List ℕ
bus_trace_by states s seed steps from done = bus_trace_of states s from (bus_picked_by s seed steps) done

-- its lines but for the first ones and the last ones
abbrev pub bus_events_by : (states : Bool) → Start → (seed steps from : ℕ) → List ℕ
bus_events_by false s seed steps from =
    bus_text_from s.settings (program s) from (bus_picked_by s seed steps) (bus_at_start s)
bus_events_by true s seed steps from =
    bus_shown_from (bus_with_records s) s.settings (program s) from (bus_picked_by s seed steps) (bus_at_start s)

-- that trace without its last lines
abbrev pub bus_lines_by : (states : Bool) → Start → (seed steps from : ℕ) → List ℕ
bus_lines_by states s seed steps from = bus_head_text s.settings from ++ bus_events_by states s seed steps from

-- the whole trace of that schedule's run stands behind what was told before
pub record IsBusTraced (states : Bool) (s : Start) (seed steps from : ℕ) (before after : Option (List ℕ)) (done : Bool) : Type 0 where
  pub ends : BusHistory
  pub leads : BusLeadsTo s (bus_picked_by s seed steps) done ends
  pub whole : Appends before after (bus_trace_by states s seed steps from done)

-- the whole trace was made, and a first part of it was written, but not all
pub record IsBusTraceCut (states : Bool) (s : Start) (seed steps from : ℕ) (before after : Option (List ℕ)) : Type 0 where
  pub done : Bool
  pub ends : BusHistory
  pub leads : BusLeadsTo s (bus_picked_by s seed steps) done ends
  pub cut : IsCut (bus_trace_by states s seed steps from done) before after

-- Why a trace broke off, and what was written of it: a first part, with none of the last lines but where the output failed within them.
abbrev pub IsBusTraceBroken : (states : Bool) → Start → (seed steps from : ℕ) → Written → Broken → Type 0
IsBusTraceBroken states s seed steps from o Memory = IsPart (bus_lines_by states s seed steps from) o.before.bytes o.after.bytes
IsBusTraceBroken states s seed steps from o Output =
    (IsPart (bus_lines_by states s seed steps from) o.before.bytes o.after.bytes
    ⊎ IsBusTraceCut states s seed steps from o.before.bytes o.after.bytes)
    × Rose o.before.faults o.after.faults
