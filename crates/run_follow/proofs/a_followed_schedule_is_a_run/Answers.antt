-- Each event is useful where it comes.
use Rattle.rules_riscv.specs.Starting.{at_start}
use Rattle.run_follow.proofs.Runs.{followed-ends, followed-few, followed-is_run}
use Rattle.run_follow.proofs.a_followed_schedule_is_a_run.Goals as goal

pub returns-clause-runs : goal.returns-clause-runs
returns-clause-runs c = followed-is_run

pub returns-clause-ends : goal.returns-clause-ends
returns-clause-ends c s os n = (followed-few s os n (at_start s), followed-ends s os n)
