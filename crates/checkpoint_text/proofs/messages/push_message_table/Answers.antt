-- Link by link.
use Rattle.std.proofs.Common.{refl}
use Rattle.checkpoint_text.specs.Messages.{flying_rows}
use Rattle.checkpoint_text.proofs.Written.{all-more, numbered-end}
use Rattle.checkpoint_text.proofs.messages.push_message_table.Goals as goal

pub loop-k-preserved : goal.loop-k-preserved
loop-k-preserved c =
    all-more _ (flying_rows 0) (λ row. row) _ _ _ _ _ _ _ _ c.loop-k-test.true c.index-lanes-k.is refl c.loop-k.invariant
    c.in_ok-push_flying.ensures

pub returns : goal.returns
returns c = numbered-end _ _ _ _ _ _ c.loop-k-test.false c.loop-k.invariant
