-- What is written, with the rows of the cores that are left, is the text of all.
use Rattle.std.proofs.Common.{◌≡◌, ◌++◌, string_bytes, drop, map}
use Rattle.watch_count.specs.KeptCores.{numbers_after}
use Rattle.watch_count.specs.Text.{rows_from}
use Rattle.watch_count.proofs.texts.push_rows.Given as goal

abbrev pub invariant-loop-number : goal.invariant-loop-number
invariant-loop-number l =
    string_bytes l.text ++ rows_from l.table l.number (map (numbers_after l.events) (drop l.number l.cores))
    ≡ string_bytes l.fn.text ++ rows_from l.table 0 (map (numbers_after l.events) l.cores)
