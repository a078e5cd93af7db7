-- The first k marked lines were found.
use Rattle.std.proofs.Common.{◌≡◌, ℕ, take}
use Rattle.rules_maps.specs.Lines.{has_mark}
use Rattle.rules_maps.specs.Shape.{lines}
use Rattle.rules_maps.specs.Words.{those}
use Rattle.directory.specs.Data.{dir_of}
use Rattle.watch_changes.specs.Plain.{line_numbers}
use Rattle.watch_changes.proofs.touched.marked.Given as goal

abbrev pub invariant-loop-k : goal.invariant-loop-k
invariant-loop-k l =
    (elsewhere : ℕ → ℕ) → line_numbers l.found ≡ take l.k (those (has_mark (dir_of elsewhere l.dir).lines) (lines l.config))
