-- The sum of what the words so far grew by.
use Rattle.std.proofs.Common.{◌≡◌, ◌*◌, ◌%◌, ◌^◌, map}
use Rattle.std.specs.List.{range_with_len, sum}
use Rattle.report_text.specs.Trial.{word_growth}
use Rattle.report_text.proofs.growing.line_sum.Given as goal

abbrev pub invariant-loop-k : goal.invariant-loop-k
invariant-loop-k g l =
    l.sum ≡ sum (map (word_growth (g.R.ShownWords.words l.ram) (g.L.ShownWords.words l.loaded))
    (range_with_len (8 * l.fn.line.0) l.k)) % 2 ^ 32
