use Rattle.rv_exec.specs.Running.{alone}
use Rattle.core_node.specs.View.{core_of}
use Rattle.core_node.proofs.Needed.{does_end, does_halt, does_trap}
use Rattle.core_node.proofs.exec.execute_need.Goals as goal

pub returns-in-End : goal.returns-in-End
unfolding core_of
returns-in-End c =
    let k = c.args.core.now in
    rw (does_end k.config (alone c.args.inst.now) k.id.0 (core_of k) c.args.need c.in-End.is) c.end.ensures

pub returns-in-Halt : goal.returns-in-Halt
unfolding core_of
returns-in-Halt c =
    let k = c.args.core.now in
    rw (does_halt k.config (alone c.args.inst.now) k.id.0 (core_of k) c.args.need c.in-Halt.status c.in-Halt.is) c.stop.ensures

pub returns-in-Trap : goal.returns-in-Trap
unfolding core_of
returns-in-Trap c =
    let k = c.args.core.now in
    rw (does_trap k.config (alone c.args.inst.now) k.id.0 (core_of k) c.args.need c.in-Trap.cause c.in-Trap.is) c.stop-in-Trap.ensures
