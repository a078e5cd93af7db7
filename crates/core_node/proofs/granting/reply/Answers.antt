use Rattle.std.proofs.Common.{refl, ap, ◌∙◌}
use Rattle.rules_tcc.specs.CoreDeliver.{reply_in_phase}
use Rattle.commit_engine.specs.Engine.{phase_of}
use Rattle.commit_engine.specs.declared.phase.Phase.{Phase}
use Rattle.core_node.specs.View.{core_of}
use Rattle.core_node.proofs.Steps.{did_as, did_silently}
use Rattle.core_node.proofs.granting.reply.Goals as goal

pub returns-in-Running-clause-does : goal.returns-in-Running-clause-does
returns-in-Running-clause-does c = rw c.in-Running.is (did_silently _ _ _ _ refl)

pub returns-in-AwaitTid-clause-does : goal.returns-in-AwaitTid-clause-does
returns-in-AwaitTid-clause-does c = rw c.in-AwaitTid.is (did_silently _ _ _ _ refl)

pub returns-in-DoomedTid-clause-does : goal.returns-in-DoomedTid-clause-does
returns-in-DoomedTid-clause-does c = rw c.in-DoomedTid.is (did_silently _ _ _ _ refl)

pub returns-in-Ready-clause-does : goal.returns-in-Ready-clause-does
returns-in-Ready-clause-does c = rw c.in-Ready.is (did_silently _ _ _ _ refl)

pub returns-in-Solo-clause-does : goal.returns-in-Solo-clause-does
returns-in-Solo-clause-does c = rw c.in-Solo.is (did_silently _ _ _ _ refl)

pub returns-in-Halted-clause-does : goal.returns-in-Halted-clause-does
returns-in-Halted-clause-does c = rw c.in-Halted.is (did_silently _ _ _ _ refl)

pub returns-in-Overflowing-clause-does : goal.returns-in-Overflowing-clause-does
returns-in-Overflowing-clause-does c =
    let k = c.args.core.now in
    did_as _ _ _ _ _ _ (ap (λ (p : Phase). reply_in_phase k.config c.args.d.0 c.args.tid.0 (core_of k) (phase_of p)) c.in-Overflowing.is
    ∙ c.reply_room.ensures.does) (did_silently _ _ _ _ refl)
