-- How a core halted.
use Rattle.std.proofs.Common.{ap, ◌∙◌}
use Rattle.rv_exec.specs.Outcomes.{outcome_of}
use Rattle.rules_tcc.specs.State.{Halted}
use Rattle.theorem_serial.specs.Commits.{end_after}
use Rattle.core_node.specs.View.{core_of}
use Rattle.machine_cores.proofs.bank.CoreBank.ended.Goals as goal

pub returns-in-Halted : goal.returns-in-Halted
unfolding core_of
returns-in-Halted c =
    c.end_of.ensures ∙ ap (λ o. end_after Halted (outcome_of o)) c.ended.ensures
    ∙ ap (λ p. end_after p (outcome_of c.core-core.result.now.ended)) c.in-Halted.ensures
    ∙ ap (λ s. end_after s.phase s.ended) c.core-core.ensures.state
