use Rattle.std.proofs.Common.{◌≡◌, ◌++◌}
use Rattle.dir_lines.specs.Kept.{kept}
use Rattle.directory.specs.Invs.{told, is_told}
use Rattle.directory.proofs.invalidate.tell.Given as goal

abbrev pub invariant-loop-core : goal.invariant-loop-core
invariant-loop-core l =
    l.out.list.items ≡ l.fn.out.list.items ++ told l.line.0 ((kept l.lines).mark l.line.0) l.tid.0
    (is_told (kept l.lines) l.src.0 l.line.0) l.core
