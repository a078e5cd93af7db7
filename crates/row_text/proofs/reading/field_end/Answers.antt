use Rattle.std.proofs.Common.{◌<◌}
use Rattle.row_text.proofs.Fronts.{all-more}
use Rattle.row_text.proofs.reading.field_end.Goals as goal

pub loop-i-preserved : goal.loop-i-preserved
loop-i-preserved c = all-more (λ b. 32 < b) c.args.bytes.now c.loop-i.i c.loop-i-test.true c.loop-i.invariant c.if-byte-le32.false
