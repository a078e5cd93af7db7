use Rattle.std.proofs.Common.{◌*◌, ◌%◌, ◌^◌, ◌∙◌, ap, map, sym}
use Rattle.std.specs.List.{range_with_len, sum}
use Rattle.report_text.specs.Trial.{word_growth}
use Rattle.report_text.proofs.Eights.{sum-eight_more}
use Rattle.report_text.proofs.WordByWord.{sums-mod}
use Rattle.report_text.proofs.growing.sum_of_growth.Goals as goal

pub loop-line-preserved : goal.loop-line-preserved
loop-line-preserved g c =
    let grown = word_growth (g.R.ShownWords.words c.args.ram.now) (g.L.ShownWords.words c.args.loaded.now) in
    let line = c.loop-line.line in
    let more = sum-eight_more grown line in
    sums-mod (sum (map grown (range_with_len 0 (8 * line)))) (sum (map grown (range_with_len (8 * line) 8)))
    c.loop-line.sum c.line_sum-sum.result (2 ^ 32) c.loop-line.invariant c.line_sum-sum.ensures
    ∙ ap (λ x. x % 2 ^ 32) (sym more)
