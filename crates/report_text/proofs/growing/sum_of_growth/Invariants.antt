-- The sum of what the words of the lines so far grew by.
use Rattle.std.proofs.Common.{◌≡◌, ◌*◌, ◌%◌, ◌^◌, map}
use Rattle.std.specs.List.{range_with_len, sum}
use Rattle.report_text.specs.Trial.{word_growth}
use Rattle.report_text.proofs.growing.sum_of_growth.Given as goal

abbrev pub invariant-loop-line : goal.invariant-loop-line
invariant-loop-line g l =
    l.sum ≡ sum (map (word_growth (g.R.ShownWords.words l.ram) (g.L.ShownWords.words l.loaded)) (range_with_len 0 (8 * l.line))) % 2 ^ 32
