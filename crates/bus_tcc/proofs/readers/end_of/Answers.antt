-- How a core halted.
use Rattle.std.proofs.Common.{ap, ◌∙◌}
use Rattle.rv_exec.specs.Outcomes.{outcome_of}
use Rattle.rules_tcc.specs.State.{Halted}
use Rattle.theorem_serial.specs.Commits.{end_after}
use Rattle.core_node.specs.View.{core_of}
use Rattle.bus_tcc.proofs.readers.end_of.Goals as goal

pub returns-in-Halted : goal.returns-in-Halted
unfolding core_of
returns-in-Halted c =
    c.end_by.ensures ∙ ap (λ o. end_after Halted (outcome_of o)) c.ended.ensures
    ∙ ap (λ p. end_after p (outcome_of c.args.core.now.ended)) c.in-Halted.ensures
