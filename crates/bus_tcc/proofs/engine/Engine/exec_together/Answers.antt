-- A core that isn't alone executes or commits, or does nothing.
use Rattle.std.proofs.Common.{◌≡◌, true, false, refl, ap, sym, ◌∙◌}
use Rattle.commit_engine.specs.Engine.{phase_of}
use Rattle.commit_engine.specs.declared.phase.Phase.TheVariants as code
use Rattle.rules_tcc.specs.Attempt.{is_solo}
use Rattle.rules_tcc.specs.State.{Running, AwaitTid, DoomedTid, Probing, Ready, Solo, Halted}
use Rattle.core_node.specs.View.{core_of}
use Rattle.bus_tcc.specs.Inside.{machine_of}
use Rattle.bus_tcc.proofs.ByPhase.{at-phase, overflowing-rests, resting-answers, running-step, runs-executes}
use Rattle.bus_tcc.proofs.engine.Engine.exec_together.Goals as goal

pub execute-requires-clause-executes : goal.execute-requires-clause-executes
execute-requires-clause-executes c =
    runs-executes c.args.self.now c.args.core.0
    (at-phase (machine_of c.self.inside) c.args.self.now c.args.core.0 (core_of c.core.result.now) Running c.self.view_is
    c.core.ensures.state (sym (ap phase_of c.in-Running.is) ∙ c.phase.ensures))

pub execute-requires-clause-goes_on : goal.execute-requires-clause-goes_on
execute-requires-clause-goes_on c =
    running-step c.args.self.now c.args.core.0 c.requires.exists
    (at-phase (machine_of c.self.inside) c.args.self.now c.args.core.0 (core_of c.core.result.now) Running c.self.view_is
    c.core.ensures.state (sym (ap phase_of c.in-Running.is) ∙ c.phase.ensures))

pub commit-requires-clause-waits : goal.commit-requires-clause-waits
commit-requires-clause-waits c =
    at-phase (machine_of c.self.inside) c.args.self.now c.args.core.0 (core_of c.core.result.now) AwaitTid c.self.view_is
    c.core.ensures.state (sym (ap phase_of c.in-AwaitTid.is) ∙ c.phase.ensures)

pub returns-in-DoomedTid : goal.returns-in-DoomedTid
returns-in-DoomedTid c =
    resting-answers c.args.self.now c.args.core.0 DoomedTid c.requires.exists
    (at-phase (machine_of c.self.inside) c.args.self.now c.args.core.0 (core_of c.core.result.now) DoomedTid c.self.view_is
    c.core.ensures.state (sym (ap phase_of c.in-DoomedTid.is) ∙ c.phase.ensures)) refl

pub returns-in-Probing : goal.returns-in-Probing
returns-in-Probing c =
    resting-answers c.args.self.now c.args.core.0 (Probing c.in-Probing.field-0.0) c.requires.exists
    (at-phase (machine_of c.self.inside) c.args.self.now c.args.core.0 (core_of c.core.result.now) (Probing c.in-Probing.field-0.0)
    c.self.view_is
    c.core.ensures.state (sym (ap phase_of c.in-Probing.is) ∙ c.phase.ensures)) refl

pub returns-in-Ready : goal.returns-in-Ready
returns-in-Ready c =
    resting-answers c.args.self.now c.args.core.0 (Ready c.in-Ready.field-0.0) c.requires.exists
    (at-phase (machine_of c.self.inside) c.args.self.now c.args.core.0 (core_of c.core.result.now) (Ready c.in-Ready.field-0.0)
    c.self.view_is
    c.core.ensures.state (sym (ap phase_of c.in-Ready.is) ∙ c.phase.ensures)) refl

pub returns-in-Overflowing : goal.returns-in-Overflowing
returns-in-Overflowing c =
    resting-answers c.args.self.now c.args.core.0 (phase_of (code.Overflowing c.in-Overflowing.field-0)) c.requires.exists
    (at-phase (machine_of c.self.inside) c.args.self.now c.args.core.0 (core_of c.core.result.now) (phase_of (code.Overflowing
    c.in-Overflowing.field-0)) c.self.view_is
    c.core.ensures.state (sym (ap phase_of c.in-Overflowing.is) ∙ c.phase.ensures)) (overflowing-rests c.in-Overflowing.field-0)

pub returns-in-Halted : goal.returns-in-Halted
returns-in-Halted c =
    resting-answers c.args.self.now c.args.core.0 Halted c.requires.exists
    (at-phase (machine_of c.self.inside) c.args.self.now c.args.core.0 (core_of c.core.result.now) Halted c.self.view_is
    c.core.ensures.state (sym (ap phase_of c.in-Halted.is) ∙ c.phase.ensures)) refl

pub returns-in-Solo : goal.returns-in-Solo
returns-in-Solo c =
    let e = at-phase (machine_of c.self.inside) c.args.self.now c.args.core.0 (core_of c.core.result.now) (Solo c.in-Solo.field-0.0)
    c.self.view_is
    c.core.ensures.state (sym (ap phase_of c.in-Solo.is) ∙ c.phase.ensures) in
    let bad : true ≡ false = sym (ap is_solo e) ∙ c.requires.together in absurd (cc)
