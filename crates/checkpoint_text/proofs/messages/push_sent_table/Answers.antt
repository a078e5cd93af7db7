-- Link by link.
use Rattle.std.proofs.Common.{[], ◌∷◌, ap, length}
use Rattle.machine_links.specs.Lane.{Lane}
use Rattle.checkpoint_text.proofs.Written.{each-more, numbered-end}
use Rattle.checkpoint_text.proofs.messages.push_sent_table.Goals as goal

pub loop-k-preserved : goal.loop-k-preserved
loop-k-preserved c =
    each-more _ (λ (l : Lane). length l ∷ []) _ _ _ _ _ _ _ _ c.loop-k-test.true c.index-lanes-k.is (ap (λ n. n ∷ []) c.sent.ensures)
    c.loop-k.invariant c.in_ok-push_row.ensures

pub returns : goal.returns
returns c = numbered-end _ _ _ _ _ _ c.loop-k-test.false c.loop-k.invariant
