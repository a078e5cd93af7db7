use Rattle.std.proofs.Common.{ap, ◌∙◌}
use Rattle.image_load.specs.Contents.{started}
use Rattle.rv_code.specs.Machine.{program}
use Rattle.core_node.specs.AtHand.{ends_by}
use Rattle.core_node.specs.View.{core_of}
use Rattle.core_node.specs.declared.state.Core.{Core}
use Rattle.core_node.proofs.node.CoreNode.ends.Goals as goal

pub returns : goal.returns
unfolding core_of
returns c = c.ends.ensures ∙ ap (λ (k : Core). ends_by ((program (started c.args.code.now)).need k.state)) c.self.view_is
