use Rattle.std.proofs.Common.{◌<◌, arith}
use Rattle.report_text.proofs.WordByWord.{growth_more}
use Rattle.report_text.proofs.growing.line_sum.Goals as goal

pub loop-k-preserved : goal.loop-k-preserved
loop-k-preserved g c =
    let below : c.loop-k.k < 8 = omega arith in
    growth_more (g.R.ShownWords.words c.args.ram.now) (g.L.ShownWords.words c.args.loaded.now) c.args.line.0 c.loop-k.k
    c.line-now.result c.line-old.result c.loop-k.sum
    (record { is = c.line-now.ensures }) (record { is = c.line-old.ensures }) below c.loop-k.invariant
