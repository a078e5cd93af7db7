use Rattle.std.proofs.Common.{refl}
use Rattle.rules_tcc.specs.Execute.{request_line}
use Rattle.core_node.specs.View.{core_of}
use Rattle.core_node.proofs.Asked.{sent_asked}
use Rattle.core_node.proofs.missing.ask.Goals as goal

pub returns-clause-does : goal.returns-clause-does
unfolding core_of request_line
returns-clause-does c =
    let k = c.args.core.now in
    record {
      core = refl;
      sent = sent_asked c.args.out.now c.hand_out.new.self k.config c.args.line c.home-home.result c.last_commit-after.result
          (core_of k).last_commit c.home-home.ensures.value
          c.last_commit-after.ensures c.hand_out.ensures.sent c.hand_out.ensures.room;
    }
