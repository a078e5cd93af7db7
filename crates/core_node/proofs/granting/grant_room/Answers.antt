use Rattle.std.proofs.Common.{refl, ap, Option}
use Rattle.tcc_base.specs.declared.names.Tid.{Tid}
use Rattle.rules_tcc.specs.CoreDeliver.{grant_in_phase}
use Rattle.commit_engine.specs.Engine.{phase_of}
use Rattle.commit_engine.specs.declared.phase.Phase.TheVariants as code
use Rattle.core_node.specs.View.{core_of}
use Rattle.core_node.proofs.Steps.{did_as, did_silently}
use Rattle.core_node.proofs.granting.grant_room.Goals as goal

pub returns-in-None-clause-does : goal.returns-in-None-clause-does
returns-in-None-clause-does c =
    let k = c.args.core.now in
    did_as _ _ _ _ _ _ (ap (λ (o : Option Tid). grant_in_phase k.config c.args.tid.0 (core_of k) (phase_of
    (code.Overflowing o))) c.in-None.is) c.probe_all.ensures.does

pub returns-in-Some-clause-does : goal.returns-in-Some-clause-does
returns-in-Some-clause-does c =
    let k = c.args.core.now in
    did_as _ _ _ _ _ _ (ap (λ (o : Option Tid). grant_in_phase k.config c.args.tid.0 (core_of k) (phase_of
    (code.Overflowing o))) c.in-Some.is) (did_silently _ _ _ _ refl)
