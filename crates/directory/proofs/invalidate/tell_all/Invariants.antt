use Rattle.std.proofs.Common.{◌≡◌, ◌++◌, take}
use Rattle.rules_maps.specs.Words.{those}
use Rattle.rules_maps.specs.Shape.{lines}
use Rattle.rules_maps.specs.Lines.{has_mark}
use Rattle.dir_lines.specs.Kept.{kept}
use Rattle.directory.specs.Invs.{told_of}
use Rattle.directory.proofs.invalidate.tell_all.Given as goal

abbrev pub invariant-loop-k : goal.invariant-loop-k
invariant-loop-k l =
    l.out.list.items ≡ l.fn.out.list.items
    ++ told_of (kept l.lines) l.lines.place.shape.cores l.src.0 l.tid.0
    (take l.k (those (has_mark (kept l.lines)) (lines l.lines.place.shape)))
