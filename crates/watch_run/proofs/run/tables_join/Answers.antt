-- The rows below so many events, those from there on, and the last.
use Rattle.watch_run.proofs.Rested.{tables-join}
use Rattle.watch_run.proofs.Runs.{run-tables-join}
use Rattle.watch_run.proofs.run.tables_join.Goals as goal

pub returns-clause-all : goal.returns-clause-all
returns-clause-all c = tables-join

pub returns-clause-runs : goal.returns-clause-runs
returns-clause-runs c = run-tables-join
