use Rattle.std.proofs.Common.{sym, subst}
use Rattle.tcc_msg.specs.Plain.{msg_of}
use Rattle.tcc_msg.specs.declared.msg.Msg.{Msg}
use Rattle.rules_tcc.specs.CoreDeliver.{from_dir, probe_reply}
use Rattle.core_node.specs.Answers.{Happened}
use Rattle.core_node.specs.View.{core_of}
use Rattle.core_node.proofs.Steps.{happened_did, happened_silently, fill_silent}
use Rattle.core_node.proofs.delivering.from_dir.Goals as goal

pub returns-in_ok-make_room-in-ProbeReply-clause-does : goal.returns-in_ok-make_room-in-ProbeReply-clause-does
unfolding probe_reply core_of
returns-in_ok-make_room-in-ProbeReply-clause-does c =
    let k = c.args.core.now in
    subst (λ (m : Msg). Happened (from_dir k.config c.args.d.0 (core_of k)
    (msg_of m)) c.args.out.now c.reply.new.core c.reply.new.out) (sym c.in-ProbeReply.is)
    (happened_did _ _ _ _ _ _ c.make_room.ensures.unsent c.reply.ensures.does)

pub returns-in-Fill-clause-does : goal.returns-in-Fill-clause-does
returns-in-Fill-clause-does c =
    let k = c.args.core.now in
    subst (λ (m : Msg). Happened (from_dir k.config c.args.d.0 (core_of k) (msg_of m)) c.args.out.now c.fill.new.core c.args.out.now)
    (sym c.in-Fill.is)
    (happened_silently _ c.args.out.now c.fill.new.core c.fill.ensures.does (fill_silent _ _ (core_of k)))
