use Rattle.std.proofs.Common.{ap, ◌∙◌, sym}
use Rattle.image_load.specs.Contents.{started}
use Rattle.rules_program.specs.Program.{Need}
use Rattle.core_node.specs.AtHand.{need_overflows}
use Rattle.core_node.specs.View.{core_of}
use Rattle.core_node.proofs.overflowing.at_pc.Goals as goal

pub returns-in-Ok : goal.returns-in-Ok
unfolding started
returns-in-Ok c =
    c.at_need.ensures ∙ ap (λ (n : Need). need_overflows c.args.core.now.config (core_of c.args.core.now) n) (c.plan.ensures.need
    ∙ sym c.in-Ok.ensures.need)
