-- What is written, with the rows of the lines that are left, is the rows of all.
use Rattle.std.proofs.Common.{◌≡◌, ◌++◌, codes, map}
use Rattle.count_rows.specs.Rows.{line_numbers}
use Rattle.count_rows.proofs.Written.{text_of}
use Rattle.count_rows.proofs.writing.push_lines.Given as goal

abbrev pub invariant-loop-line : goal.invariant-loop-line
invariant-loop-line l =
    l.text ++ text_of (codes "at-line") (map line_numbers l.line-iterator)
    ≡ l.fn.text ++ text_of (codes "at-line") (map line_numbers l.lines.entries)
