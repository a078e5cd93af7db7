use Rattle.std.proofs.Common.{sym, subst}
use Rattle.tcc_msg.specs.Plain.{msg_of}
use Rattle.tcc_msg.specs.declared.msg.Msg.{Msg}
use Rattle.rules_tcc.specs.CoreDeliver.{from_vendor, grant}
use Rattle.core_node.specs.Answers.{Happened}
use Rattle.core_node.specs.View.{core_of}
use Rattle.core_node.proofs.Steps.{happened_did}
use Rattle.core_node.proofs.delivering.from_vendor.Goals as goal

pub returns-in_ok-make_room-in-TidGrant-clause-does : goal.returns-in_ok-make_room-in-TidGrant-clause-does
unfolding grant core_of
returns-in_ok-make_room-in-TidGrant-clause-does c =
    let k = c.args.core.now in
    subst (λ (m : Msg). Happened (from_vendor k.config (core_of k) (msg_of m)) c.args.out.now c.grant.new.core c.grant.new.out)
    (sym c.in-TidGrant.is)
    (happened_did _ _ _ _ _ _ c.make_room.ensures.unsent c.grant.ensures.does)
