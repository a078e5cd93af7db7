use Rattle.std.proofs.Common.{refl, ap, ◌∙◌, sym, Option}
use Rattle.image_load.specs.Contents.{started}
use Rattle.rv_code.specs.Machine.{program}
use Rattle.commit_engine.specs.Engine.{phase_of}
use Rattle.commit_engine.specs.declared.phase.Phase.{Phase}
use Rattle.rules_tcc.specs.CoreExec.{core_exec, exec_in_phase, unless_awaiting}
use Rattle.core_node.specs.AtHand.{goes_alone}
use Rattle.core_node.specs.View.{awaited_of, core_of}
use Rattle.core_node.specs.declared.state.Awaited.{Awaited}
use Rattle.core_node.proofs.Overflows.{others-stay, runs-alone}
use Rattle.core_node.proofs.overflowing.overflows.Goals as goal

pub returns-in-Some : goal.returns-in-Some
unfolding core_exec core_of
returns-in-Some c =
    let k = c.args.core.now in
    let p = program (started c.args.code.now) in
    sym (ap (λ (o : Option Awaited). goes_alone (unless_awaiting k.config p k.id.0 (core_of k) (awaited_of o))) c.in-Some.is)
    ∙ sym (ap (λ (q : Phase). goes_alone (exec_in_phase k.config p k.id.0 (core_of k) (phase_of q))) c.in-Running.is)

pub returns-in-None : goal.returns-in-None
unfolding core_exec core_of
returns-in-None c =
    let k = c.args.core.now in
    let p = program (started c.args.code.now) in
    c.at_pc.ensures ∙ sym (runs-alone k.config p k.id.0 (core_of k) (ap phase_of c.in-Running.is))
    ∙ sym (ap (λ (o : Option Awaited). goes_alone (unless_awaiting k.config p k.id.0 (core_of k) (awaited_of o))) c.in-None.is)
    ∙ sym (ap (λ (q : Phase). goes_alone (exec_in_phase k.config p k.id.0 (core_of k) (phase_of q))) c.in-Running.is)

pub returns-in_default : goal.returns-in_default
unfolding core_exec core_of
returns-in_default c =
    let k = c.args.core.now in
    sym (others-stay k.config (program (started c.args.code.now)) k.id.0 (core_of k) k.phase refl c.in_default.not-Running)
