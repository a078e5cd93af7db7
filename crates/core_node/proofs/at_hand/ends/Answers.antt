use Rattle.std.proofs.Common.{ap, ◌∙◌, sym}
use Rattle.image_load.specs.Contents.{started}
use Rattle.core_node.specs.AtHand.{ends_by}
use Rattle.core_node.proofs.at_hand.ends.Goals as goal

pub returns-in-Ok : goal.returns-in-Ok
unfolding started
returns-in-Ok c = c.is_end.ensures ∙ ap ends_by (c.plan.ensures.need ∙ sym c.in-Ok.ensures.need)
