use Rattle.std.proofs.Common.{refl}
use Rattle.tcc_base.specs.declared.names.NodeId.TheVariants.{Vendor}
use Rattle.tcc_msg.specs.declared.msg.Msg.TheVariants.{TidReq}
use Rattle.rules_tcc.specs.Execute.{overflow}
use Rattle.commit_engine.proofs.Lemmas.{sent_one}
use Rattle.core_node.specs.View.{core_of}
use Rattle.core_node.proofs.missing.overflow.Goals as goal

pub returns-clause-does : goal.returns-clause-does
unfolding core_of overflow
returns-clause-does c = record {
  core = refl;
  sent = sent_one c.args.out.now c.hand_out.new.self Vendor TidReq c.hand_out.ensures.sent c.hand_out.ensures.room;
}
