-- What is written, with the rows of the conflicts that are left, is the rows of all.
use Rattle.std.proofs.Common.{◌≡◌, ◌++◌, codes, map}
use Rattle.count_rows.specs.Rows.{conflict_numbers}
use Rattle.count_rows.proofs.Written.{text_of}
use Rattle.count_rows.proofs.writing.push_conflicts.Given as goal

abbrev pub invariant-loop-conflict : goal.invariant-loop-conflict
invariant-loop-conflict l =
    l.text ++ text_of (codes "conflict") (map conflict_numbers l.conflict-iterator)
    ≡ l.fn.text ++ text_of (codes "conflict") (map conflict_numbers l.conflicts.entries)
