use Rattle.outcomes_law.proofs.BusDone.{done-bus-runs-are-outcomes}
use Rattle.outcomes_law.proofs.Done.{done-runs-are-outcomes}
use Rattle.outcomes_law.proofs.done_runs_are_outcomes.Goals as goal

pub returns-clause-runs : goal.returns-clause-runs
returns-clause-runs c = done-runs-are-outcomes

pub returns-clause-bus : goal.returns-clause-bus
returns-clause-bus c = done-bus-runs-are-outcomes
