-- A core executes.
use Rattle.std.proofs.Common.{◌<◌, true, false, sym, ◌∙◌, subst}
use Rattle.commit_engine.specs.Engine.{phase_of}
use Rattle.core_node.specs.View.{core_of}
use Rattle.bus_tcc.specs.Inside.{machine_of}
use Rattle.bus_tcc.specs.Machine.{bus_settings_of}
use Rattle.bus_tcc.proofs.ByPhase.{exists-so, refused-so, solo-so}
use Rattle.bus_tcc.proofs.engine.Engine.exec.Goals as goal

pub returns-then-not-allows_exec : goal.returns-then-not-allows_exec
returns-then-not-allows_exec c = refused-so c.args.self.now c.args.core.0 (sym c.allows_exec.ensures ∙ c.if-not-allows_exec.true)

pub core-requires : goal.core-requires
core-requires c =
    subst (λ m. c.args.core.0 < (bus_settings_of m).cores) (sym c.self.view_is)
    (exists-so c.args.self.now c.args.core.0 (sym c.allows_exec.ensures ∙ c.if-not-allows_exec.false))

pub exec_alone-requires-clause-exists : goal.exec_alone-requires-clause-exists
exec_alone-requires-clause-exists c =
    exists-so c.args.self.now c.args.core.0 (sym c.allows_exec.ensures ∙ c.if-not-allows_exec.false)

pub exec_alone-requires-clause-enabled : goal.exec_alone-requires-clause-enabled
exec_alone-requires-clause-enabled c = sym c.allows_exec.ensures ∙ c.if-not-allows_exec.false

pub exec_alone-requires-clause-alone : goal.exec_alone-requires-clause-alone
exec_alone-requires-clause-alone c =
    solo-so (machine_of c.self.inside) c.args.self.now c.args.core.0 (core_of c.core.result.now) (phase_of c.phase.result)
    c.is_alone.result true c.self.view_is c.core.ensures.state c.phase.ensures c.is_alone.ensures c.if-is_alone.true

pub exec_together-requires-clause-exists : goal.exec_together-requires-clause-exists
exec_together-requires-clause-exists c =
    exists-so c.args.self.now c.args.core.0 (sym c.allows_exec.ensures ∙ c.if-not-allows_exec.false)

pub exec_together-requires-clause-enabled : goal.exec_together-requires-clause-enabled
exec_together-requires-clause-enabled c = sym c.allows_exec.ensures ∙ c.if-not-allows_exec.false

pub exec_together-requires-clause-together : goal.exec_together-requires-clause-together
exec_together-requires-clause-together c =
    solo-so (machine_of c.self.inside) c.args.self.now c.args.core.0 (core_of c.core.result.now) (phase_of c.phase.result)
    c.is_alone.result false c.self.view_is c.core.ensures.state c.phase.ensures c.is_alone.ensures c.if-is_alone.false
