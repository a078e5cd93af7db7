use Rattle.outcomes_law.proofs.Reports.{bus-reports-are-outcomes, lists-are-outcomes, reports-are-outcomes}
use Rattle.outcomes_law.proofs.reports_are_outcomes.Goals as goal

pub returns-clause-runs : goal.returns-clause-runs
returns-clause-runs c = reports-are-outcomes

pub returns-clause-bus : goal.returns-clause-bus
returns-clause-bus c = bus-reports-are-outcomes

pub returns-clause-lists : goal.returns-clause-lists
returns-clause-lists c = lists-are-outcomes
