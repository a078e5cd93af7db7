-- What a message waits for is in a later state as it was.
use Rattle.std.specs.Prelude.{◌≡◌, ◌<◌, ◌≤◌, ℕ, false}
use Rattle.rules_maps.specs.Lines.{has_mark}
use Rattle.rules_tcc.specs.State.{DirState}
use Rattle.directory.specs.declared.waits.Cause.{Cause}
use Rattle.directory.specs.declared.waits.Cause.TheVariants.{Turn, Done, Line, Served, Marks}

-- the line is known as it was, but for its sharers
pub record SameLine (l : ℕ) (s n : DirState) : Type 0 where
  pub mark : n.lines.mark l ≡ s.lines.mark l
  pub owner : n.lines.owner l ≡ s.lines.owner l
  pub asked : n.lines.asked l ≡ s.lines.asked l
  pub tag : n.lines.tag l ≡ s.lines.tag l

-- a line that isn't marked is known as it was, whichever TID is served by now
pub record SameUnmarked (l : ℕ) (s n : DirState) : Type 0 where
  pub unmarked : has_mark s.lines l ≡ false
  pub line : SameLine l s n
  pub rises : s.serving.serving ≤ n.serving.serving

-- the line is known as it was, while the same TID is served
pub record SameServed (l : ℕ) (s n : DirState) : Type 0 where
  pub serving : n.serving.serving ≡ s.serving.serving
  pub line : SameLine l s n

-- the same lines are marked, while the same TID is served
pub record SameMarks (s n : DirState) : Type 0 where
  pub serving : n.serving.serving ≡ s.serving.serving
  pub mark : n.lines.mark ≡ s.lines.mark

abbrev pub Stays : Cause → DirState → DirState → Type 0
Stays (Turn t) s n = n.serving.serving < t.0
Stays (Done t) s n = n.serving.serving ≤ t.0
Stays (Line l) s n = SameUnmarked l.0 s n
Stays (Served l) s n = SameServed l.0 s n
Stays Marks s n = SameMarks s n
