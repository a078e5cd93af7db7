-- What a trace has written while its run goes on.
use Rattle.std.specs.Prelude.{ℕ, ◌≡◌, ◌<◌, ◌↔◌, ◌⊎◌, Bool, List, ◌++◌, Option, Some, IsTrue, length, take}
use Rattle.std.specs.Io.KnownBytes.{Appends}
use Rattle.image_load.specs.Start.{Start}
use Rattle.rv_code.specs.Machine.{program}
use Rattle.theorem_riscv.specs.Given.{IsSerial}
use Rattle.rules_riscv.specs.Starting.{world_at_start, at_start}
use Rattle.rules_maps.specs.Nodes.{Event}
use Rattle.rules_maps.specs.Shape.{Shape}
use Rattle.rules_tcc.specs.Seen.{IsDone}
use Rattle.rules_tcc.specs.Step.{History, run}
use Rattle.tcc_world.specs.Faults.{Rose}
use Rattle.tcc_world.specs.Page.{Written}
use Rattle.rules_tcc.specs.State.{World}
use Rattle.watch_trace.specs.Text.{head_text, tail_text}
use Rattle.watch_run.specs.Shown.{shown_lines, shown_trace}
use Rattle.watch_run.specs.declared.telling.Shown.{Shown}
use Rattle.watch_run.specs.declared.tracing.Broken.{Broken}
use Rattle.watch_run.specs.declared.tracing.Broken.TheVariants.{Memory, Output}

-- such a text stands behind what was told before
pub record IsBehind (Is : List ℕ → Type 0) (before after : Option (List ℕ)) : Type 0 where
  pub text : List ℕ
  pub is : Is text
  pub whole : Appends before after text

-- of what was held, with this behind it, a first part was written, and the rest is held now
pub record IsPut (held now : List ℕ) (before after : Option (List ℕ)) (more : List ℕ) : Type 0 where
  pub written : List ℕ
  pub all : held ++ more ≡ written ++ now
  pub appended : Appends before after written

-- a first part of what was held was written, with the lines of the first of these events behind it; n tells how many bytes at most
pub record HasBegun (lines : List Event → List ℕ) (held : List ℕ) (es : List Event) (before after : Option (List ℕ)) : Type 0 where
  pub firsts : List Event
  pub left : List Event
  pub parts : es ≡ firsts ++ left
  pub n : ℕ
  pub appended : Appends before after (take n (held ++ lines firsts))

-- why the lines of events broke off, and what was written of them
abbrev pub IsStopped : (lines : List Event → List ℕ) → (held : List ℕ) → List Event → Written → Broken → Type 0
IsStopped lines held es o Memory = HasBegun lines held es o.before.bytes o.after.bytes
IsStopped lines held es o Output = HasBegun lines held es o.before.bytes o.after.bytes × Rose o.before.faults o.after.faults

-- the rules lead from the start by these events to this state, which is done or isn't, and its commits are a serial execution of the
-- plain machine
pub record LeadsTo (s : Start) (es : List Event) (done : Bool) (h : History) : Type 0 where
  pub is_run : run s.settings (program s) (world_at_start s) es ≡ Some h
  pub is_done : IsTrue done ↔ IsDone s.settings h.world
  pub serial : IsSerial s h

-- the whole trace of these events stands behind what was told before
pub record IsTraced (s : Start) (shown : Shown) (es : List Event) (before after : Option (List ℕ)) (done : Bool) : Type 0 where
  pub ends : History
  pub leads : LeadsTo s es done ends
  pub whole : Appends before after (shown_trace shown s (world_at_start s) es done)

-- the first lines of a trace were begun, and lines of its first events may stand behind them, but none of the last lines
abbrev pub IsTraceBegun : Start → Shown → List Event → (before after : Option (List ℕ)) → Type 0
IsTraceBegun s shown es before after =
    HasBegun (λ firsts. shown_lines shown s firsts (at_start s)) (head_text s.settings shown.from) es before after

-- the whole trace was made, and a first part of it was written, but not all
pub record IsTraceCut (s : Start) (shown : Shown) (es : List Event) (before after : Option (List ℕ)) : Type 0 where
  pub done : Bool
  pub ends : History
  pub leads : LeadsTo s es done ends
  pub n : ℕ
  pub short : n < length (shown_trace shown s (world_at_start s) es done)
  pub cut : Appends before after (take n (shown_trace shown s (world_at_start s) es done))

-- why a trace broke off, and what was written of it
abbrev pub IsTraceBroken : Start → Shown → List Event → Written → Broken → Type 0
IsTraceBroken s shown es o Memory = IsTraceBegun s shown es o.before.bytes o.after.bytes
IsTraceBroken s shown es o Output =
    (IsTraceBegun s shown es o.before.bytes o.after.bytes ⊎ IsTraceCut s shown es o.before.bytes o.after.bytes)
    × Rose o.before.faults o.after.faults

-- a first part of these bytes was written
abbrev pub IsPart : List ℕ → (before after : Option (List ℕ)) → Type 0
IsPart bytes before after = (n : ℕ) × Appends before after (take n bytes)

-- the last lines stand behind what was held, or a first part of it all
abbrev pub IsEnded : Shape → World → (held : List ℕ) → (events : ℕ) → (before after : Option (List ℕ)) → Bool → Type 0
IsEnded sh w held events before after done =
    (IsTrue done ↔ IsDone sh w) × Appends before after (held ++ tail_text done events)

abbrev pub IsEndCut : Shape → World → (held : List ℕ) → (events : ℕ) → Written → Broken → Type 0
IsEndCut sh w held events o Memory = IsPart held o.before.bytes o.after.bytes
IsEndCut sh w held events o Output =
    (IsPart held o.before.bytes o.after.bytes
    ⊎ ((done : Bool) × (n : ℕ) × (IsTrue done ↔ IsDone sh w) × (n < length (held ++ tail_text done events))
    × Appends o.before.bytes o.after.bytes (take n (held ++ tail_text done events))))
    × Rose o.before.faults o.after.faults
