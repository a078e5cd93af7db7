-- From the laws of picked and of joined schedules, of those picked by phases, and of those of the machine with one bus.
use Rattle.tcc_cli.proofs.OnBus.{open_on_bus}
use Rattle.tcc_cli.proofs.Taken.{open_phased, open_runs}
use Rattle.tcc_cli.proofs.laws.open_runs_take_all_events.Goals as goal

pub returns-clause-runs : goal.returns-clause-runs
returns-clause-runs c =
    open_runs c.riscv_machines_are_never_stuck.ensures.picked c.a_picked_schedule_is_a_run.ensures.ends
    c.open_joined_runs_take_all_events.ensures

pub returns-clause-phased : goal.returns-clause-phased
returns-clause-phased c =
    open_phased c.phased_runs_are_never_stuck.ensures.picked c.a_schedule_picked_by_phases_runs.ensures.runs
    c.phased_runs_are_runs.ensures.runs

pub returns-clause-bus : goal.returns-clause-bus
returns-clause-bus c = open_on_bus c.riscv_bus_machines_are_never_stuck.ensures.picked
