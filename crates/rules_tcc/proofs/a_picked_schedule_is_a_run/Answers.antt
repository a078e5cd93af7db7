use Rattle.rules_tcc.proofs.Picked.{picked-is_run}
use Rattle.rules_tcc.proofs.a_picked_schedule_is_a_run.Goals as goal

pub returns-clause-runs : goal.returns-clause-runs
returns-clause-runs c sh p rs w = (picked-is_run sh p rs w).runs

pub returns-clause-ends : goal.returns-clause-ends
returns-clause-ends c sh p rs w = let i = picked-is_run sh p rs w in (i.few, i.ends)
