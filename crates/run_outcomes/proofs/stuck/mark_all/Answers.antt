use Rattle.std.proofs.Common.{subst}
use Rattle.run_outcomes.proofs.Marking.{targets}
use Rattle.run_outcomes.specs.Chains.{AreChained}
use Rattle.run_outcomes.proofs.stuck.mark_all.Goals as goal

pub settle-requires-clause-chained : goal.settle-requires-clause-chained
settle-requires-clause-chained c =
    subst (λ edges. AreChained (targets edges) c.in_ok-chains.chains) c.edges.ensures.edges c.in_ok-chains.ensures
