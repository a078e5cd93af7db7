-- From the law that no state is stuck.
use Rattle.apart_run.proofs.Joining.{open-runs}
use Rattle.apart_run.proofs.laws.open_joined_runs_take_all_events.Goals as goal

pub returns : goal.returns
returns c = open-runs c.riscv_machines_are_never_stuck.ensures.done
