-- Runs of the machine with one bus that are looked at, and what is told of them.
use Rattle.std.specs.Prelude.{ℕ, ◌≡◌, ◌⊎◌, Bool, true, false, List, [], Some, length, min}
use Rattle.image_load.specs.Start.{Start}
use Rattle.bus_count.specs.Csv.{bus_csv_text}
use Rattle.bus_count.specs.Text.{bus_count_text}
use Rattle.rules_bus.specs.State.{BusEvent}
use Rattle.rules_bus.specs.Step.{BusHistory}
use Rattle.bus_run.specs.Counted.{counts_of_bus_run}
use Rattle.bus_run.specs.Traced.{bus_lines_by, bus_trace_of}
use Rattle.bus_state.specs.Text.{bus_state_text}
use Rattle.bus_tool.specs.Running.{bus_picked_by}
use Rattle.tcc_cli.specs.Lines.{IsCut, IsWhole}
use Rattle.tcc_world.specs.Page.{Written}
use Rattle.tcc_cli.specs.Looks.{most_of}
use Rattle.tcc_cli.specs.OnBus.{BusRunsTo}
use Rattle.tcc_cli.specs.declared.refusal.Refusal.{Refusal}
use Rattle.tcc_cli.specs.declared.refusal.Refusal.TheVariants as why
use Rattle.tcc_words.specs.declared.command.View.{View}
use Rattle.tcc_words.specs.declared.command.View.TheVariants.{Trace, Count, Rows, Consoles, State}
use Rattle.tcc_world.specs.Faults.{Rose}
use Rattle.text_runs.specs.Pieces.{IsPart}
use Rattle.text_runs.specs.declared.pieces.Broken.{Broken}
use Rattle.text_runs.specs.declared.pieces.Broken.TheVariants as broken

-- what is told of a run by these events: the trace, the counts or the state at the end; there is no table of totals, and no consoles
abbrev pub bus_view_text : View → (seed steps : ℕ) → Start → (done : Bool) → List BusEvent → BusHistory → List ℕ
bus_view_text (Trace from to states) seed steps s done es h = bus_trace_of states s from es done
bus_view_text (Count true) seed steps s done es h =
    bus_csv_text s.settings (Some (seed, steps)) done (length es) (counts_of_bus_run s es)
bus_view_text (Count false) seed steps s done es h = bus_count_text s.settings done (length es) (counts_of_bus_run s es)
bus_view_text (Rows every) seed steps s done es h = []
bus_view_text (Consoles csv) seed steps s done es h = []
bus_view_text (State events) seed steps s done es h = bus_state_text s done (length es) h

-- the first events that a seed picks
abbrev pub bus_first_by : Start → (seed steps : ℕ) → View → List BusEvent
bus_first_by s seed steps view = bus_picked_by s seed (min steps (most_of view))

-- The run by these events, with its end and the text of all that. The headline: see `BusRunsTo`.
pub record LookedAtBus (s : Start) (seed steps : ℕ) (view : View) (done : Bool) (text : List ℕ) : Type 0 where
  pub ends : BusHistory
  pub runs : BusRunsTo s (bus_first_by s seed steps view) done ends
  pub text_is : text ≡ bus_view_text view seed steps s done (bus_first_by s seed steps view) ends

-- the trace was written whole
abbrev pub IsBusTraceTold : Start → (seed steps : ℕ) → View → Written → (done : Bool) → Type 0
IsBusTraceTold s seed steps view o done = (text : List ℕ) × LookedAtBus s seed steps view done text × IsWhole text o

-- a first part of the trace was written: of its first lines and of those of its events, and none of its last lines
abbrev pub IsBusTraceBegun : Start → (seed steps from to : ℕ) → (states : Bool) → Written → Type 0
IsBusTraceBegun s seed steps from to states o = IsPart (bus_lines_by states s seed (min steps to) from) o.before.bytes o.after.bytes

abbrev pub IsBusTraceCut : Start → (seed steps : ℕ) → View → Written → Type 0
IsBusTraceCut s seed steps view o = (done : Bool) × (text : List ℕ) × LookedAtBus s seed steps view done text × IsCut text o

-- why a trace broke off, of which the events from this number on, to that number, were to be told
abbrev pub IsBusTraceStopped : Start → (seed steps from to : ℕ) → (states : Bool) → Written → Refusal → Type 0
IsBusTraceStopped s seed steps from to states o why.Output =
    IsBusTraceCut s seed steps (Trace from to states) o
    ⊎ (IsBusTraceBegun s seed steps from to states o × Rose o.before.faults o.after.faults)
IsBusTraceStopped s seed steps from to states o why.Memory = IsBusTraceBegun s seed steps from to states o
IsBusTraceStopped s seed steps from to states o _ = ⊥

-- what a trace that broke off is to the program
abbrev pub text_refusal : Broken → Refusal
text_refusal broken.Memory = why.Memory
text_refusal broken.Output = why.Output
