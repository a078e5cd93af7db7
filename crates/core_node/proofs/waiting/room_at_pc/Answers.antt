use Rattle.std.proofs.Common.{ap, ◌∙◌, sym}
use Rattle.image_load.specs.Contents.{started}
use Rattle.rules_program.specs.Program.{Need}
use Rattle.rules_tcc.specs.Useful.{room_for_need}
use Rattle.core_node.specs.View.{core_of}
use Rattle.core_node.proofs.waiting.room_at_pc.Goals as goal

pub returns-else-needs_nothing : goal.returns-else-needs_nothing
unfolding started
returns-else-needs_nothing c =
    c.room_at_need.ensures ∙ ap (λ (n : Need). room_for_need c.args.core.now.config (core_of c.args.core.now) n) (c.plan.ensures.need
    ∙ sym c.in-Ok.ensures.need)
