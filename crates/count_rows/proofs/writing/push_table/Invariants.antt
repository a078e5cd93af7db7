-- What is written, with the rows of the cores that are left, is the rows of all.
use Rattle.std.proofs.Common.{◌≡◌, ◌++◌, drop}
use Rattle.count_rows.specs.Rows.{core_numbers, numbered, table_word}
use Rattle.count_rows.proofs.Written.{text_of}
use Rattle.count_rows.proofs.writing.push_table.Given as goal

abbrev pub invariant-loop-k : goal.invariant-loop-k
invariant-loop-k l =
    l.text ++ text_of (table_word l.table) (numbered (core_numbers l.table) l.k (drop l.k l.counts.cores))
    ≡ l.fn.text ++ text_of (table_word l.table) (numbered (core_numbers l.table) 0 l.counts.cores)
