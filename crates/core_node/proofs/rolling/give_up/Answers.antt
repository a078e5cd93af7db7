use Rattle.std.proofs.Common.{refl, ap}
use Rattle.rules_tcc.specs.CoreDeliver.{violated_in_phase}
use Rattle.commit_engine.specs.Engine.{phase_of}
use Rattle.commit_engine.specs.declared.phase.Phase.{Phase}
use Rattle.core_node.specs.View.{core_of}
use Rattle.core_node.proofs.Steps.{did_as, did_silently}
use Rattle.core_node.proofs.rolling.give_up.Goals as goal

pub returns-in-Running-clause-does : goal.returns-in-Running-clause-does
returns-in-Running-clause-does c =
    let k = c.args.core.now in
    did_as _ _ _ _ _ _ (ap (λ (p : Phase). violated_in_phase k.config (core_of k) (phase_of p)) c.in-Running.is)
    (did_silently _ _ _ _ c.roll_back.ensures.does)

pub returns-in-AwaitTid-clause-does : goal.returns-in-AwaitTid-clause-does
returns-in-AwaitTid-clause-does c =
    let k = c.args.core.now in
    did_as _ _ _ _ _ _ (ap (λ (p : Phase). violated_in_phase k.config (core_of k) (phase_of p)) c.in-AwaitTid.is)
    (did_silently _ _ _ _ c.doom.ensures.does)

pub returns-in-DoomedTid-clause-does : goal.returns-in-DoomedTid-clause-does
returns-in-DoomedTid-clause-does c = rw c.in-DoomedTid.is (did_silently _ _ _ _ refl)

pub returns-in-Halted-clause-does : goal.returns-in-Halted-clause-does
returns-in-Halted-clause-does c = rw c.in-Halted.is (did_silently _ _ _ _ refl)
