-- What a trace tells of a run that goes on: its further events, whatever events had led to its machine.
use Rattle.std.specs.Prelude.{ℕ, ◌≡◌, ◌+◌, ◌<◌, ◌⊎◌, Bool, List, ◌++◌, Option, length, take}
use Rattle.std.specs.Io.KnownBytes.{Appends}
use Rattle.image_load.specs.Contents.{Contents, started}
use Rattle.image_load.specs.Start.{Start}
use Rattle.net_core.specs.Machine.{Machine}
use Rattle.rules_maps.specs.Nodes.{Event}
use Rattle.rules_riscv.specs.Starting.{world_at_start}
use Rattle.rules_tcc.specs.Step.{History}
use Rattle.tcc_world.specs.Faults.{Rose}
use Rattle.tcc_world.specs.Page.{Written}
use Rattle.watch_count.specs.Counts.{Counts}
use Rattle.watch_run.specs.Looked.{HasCounted}
use Rattle.watch_run.specs.Shown.{shown_trace}
use Rattle.watch_run.specs.Written.{IsBehind, IsTraceBegun, LeadsTo}
use Rattle.watch_run.specs.declared.telling.Shown.{Shown}
use Rattle.watch_run.specs.declared.tracing.Broken.{Broken}
use Rattle.watch_run.specs.declared.tracing.Broken.TheVariants.{Memory, Output}

-- what is shown of a whole run, where the number of the first event that is shown is counted from behind so many events
abbrev pub shown_behind : (events : ℕ) → Shown → Shown
shown_behind events shown = record { from = events + shown.from; states = shown.states }

-- this text is the whole trace of these events
pub record IsTraceOf (s : Start) (shown : Shown) (es : List Event) (done : Bool) (text : List ℕ) : Type 0 where
  pub ends : History
  pub leads : LeadsTo s es done ends
  pub text_is : text ≡ shown_trace shown s (world_at_start s) es done

-- a text that is such a one stands behind what was told before
abbrev pub StandsBehind : (Is : Bool → List ℕ → Type 0) → (before after : Option (List ℕ)) → (done : Bool) → Type 0
StandsBehind Is before after done = IsBehind (Is done) before after

-- or a first part of it, and not all
pub record StandsCut (Is : Bool → List ℕ → Type 0) (before after : Option (List ℕ)) : Type 0 where
  pub done : Bool
  pub text : List ℕ
  pub is : Is done text
  pub n : ℕ
  pub short : n < length text
  pub cut : Appends before after (take n text)

-- why such a text broke off, and what was written of it: it was begun, or all of it was made
abbrev pub BrokeOff : (Is : Bool → List ℕ → Type 0) → (IsBegun : (before after : Option (List ℕ)) → Type 0) → Written → Broken → Type 0
BrokeOff Is IsBegun o Memory = IsBegun o.before.bytes o.after.bytes
BrokeOff Is IsBegun o Output =
    (IsBegun o.before.bytes o.after.bytes ⊎ StandsCut Is o.before.bytes o.after.bytes) × Rose o.before.faults o.after.faults

-- the text is the trace of all events, with these further ones, whatever events had led to the machine and were counted
abbrev pub IsFurtherTrace : Shown → Machine → (more : List Event) → (done : Bool) → (text : List ℕ) → Type 0
IsFurtherTrace shown m more done text = (c : Contents) (es : List Event) (counts : Counts) → HasCounted c es m counts
    → IsTraceOf (started c) (shown_behind (length es) shown) (es ++ more) done text

-- that trace was begun
abbrev pub IsFurtherBegun : Shown → Machine → (more : List Event) → (before after : Option (List ℕ)) → Type 0
IsFurtherBegun shown m more before after = (c : Contents) (es : List Event) (counts : Counts) → HasCounted c es m counts
    → IsTraceBegun (started c) (shown_behind (length es) shown) (es ++ more) before after
