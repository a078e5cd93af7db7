-- A Probe and a Commit that don't wait are taken.
use Rattle.rules_tcc.specs.DirDeliver.{dir_deliver}
use Rattle.net_core.specs.Machine.{settings_of, world_of}
use Rattle.watch_machine.proofs.Small.{commit-taken, probe-taken}
use Rattle.watch_machine.proofs.answering.what_became.Goals as goal

pub returns-in-Probe : goal.returns-in-Probe
unfolding dir_deliver
returns-in-Probe c = rw c.in-Probe.is (probe-taken c.args.core.0 c.in-Probe.tid.0 ((world_of c.args.system.now).dirs c.args.dir.0))

pub returns-in-Commit : goal.returns-in-Commit
unfolding dir_deliver
returns-in-Commit c =
    rw c.in-Commit.is
    (commit-taken (settings_of c.args.system.now) c.args.core.0 c.in-Commit.tid.0 c.in-Commit.count
    ((world_of c.args.system.now).dirs c.args.dir.0))
