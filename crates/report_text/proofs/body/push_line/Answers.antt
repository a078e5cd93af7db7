use Rattle.std.proofs.Common.{◌≡◌, ◌<◌, string_bytes, arith}
use Rattle.report_text.proofs.WordByWord.{word_more, array_same, line_same}
use Rattle.report_text.proofs.body.push_line.Goals as goal

pub loop-k-preserved : goal.loop-k-preserved
loop-k-preserved g c =
    let below : c.loop-k.k < 8 = omega arith in
    word_more c.args.base (g.R.ShownWords.words c.args.ram.now) (g.L.ShownWords.words c.args.loaded.now) c.args.line.0 c.loop-k.k
    c.line-now.result c.line-old.result (string_bytes c.args.text.now) (string_bytes c.loop-k.text) (string_bytes c.push_word.new.text)
    (record { is = c.line-now.ensures }) (record { is = c.line-old.ensures }) below c.loop-k.invariant c.in_ok-push_word.ensures

pub returns-else-ne : goal.returns-else-ne
returns-else-ne g c =
    let same : c.line-now.result ≡ c.line-old.result = array_same c.line-now.result c.line-old.result c.if-ne.ensures in
    line_same c.args.base (g.R.ShownWords.words c.args.ram.now) (g.L.ShownWords.words c.args.loaded.now) c.args.line.0
    c.line-now.result c.line-old.result (string_bytes c.args.text.now)
    (record { is = c.line-now.ensures }) (record { is = c.line-old.ensures }) same
