-- The vendor's one message.
use Rattle.std.proofs.Common.{◌∙◌, ◌++◌, ◌∷◌, [], ap}
use Rattle.tcc_base.specs.declared.names.NodeId.TheVariants as code_node
use Rattle.tcc_msg.specs.declared.msg.Msg.TheVariants as code
use Rattle.apart_member.proofs.Events.{grant-sends}
use Rattle.apart_member.proofs.acting.grant.Goals as goal

pub returns-clause-given : goal.returns-clause-given
returns-clause-given c =
    grant-sends c.args.core c.grant-tid.result c.args.vendor.now c.hand_out.new.self.list.items c.grant-tid.ensures.given
    (c.hand_out.ensures.sent
    ∙ ap (λ xs. xs ++ (code_node.Core c.args.core, code.TidGrant c.grant-tid.result) ∷ []) (c.reserve.ensures.unchanged ∙ c.requires.empty))
