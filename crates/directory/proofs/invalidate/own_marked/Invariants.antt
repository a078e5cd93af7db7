use Rattle.std.proofs.Common.{◌≡◌, take}
use Rattle.rules_maps.specs.Words.{those}
use Rattle.rules_maps.specs.Shape.{lines}
use Rattle.rules_maps.specs.Lines.{has_mark}
use Rattle.dir_lines.specs.Kept.{kept}
use Rattle.directory.proofs.Owning.{owned_some}
use Rattle.directory.proofs.invalidate.own_marked.Given as goal

abbrev pub invariant-loop-k : goal.invariant-loop-k
invariant-loop-k l =
    (l.lines.place ≡ l.fn.lines.place)
    × (kept l.lines ≡ owned_some l.src.0 l.tid.0 (take l.k (those (has_mark (kept l.fn.lines)) (lines l.fn.lines.place.shape)))
    (kept l.fn.lines))
