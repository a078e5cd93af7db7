use Rattle.rv_exec.specs.Running.{alone}
use Rattle.core_node.specs.View.{core_of}
use Rattle.core_node.proofs.Finished.{finished_ends}
use Rattle.core_node.proofs.closing.end.Goals as goal

pub returns : goal.returns
unfolding core_of
returns c =
    let k = c.args.core.now in
    rw (finished_ends (alone c.args.inst.now) 0 (core_of k), ← c.finish.ensures, ← c.unreserve.ensures) c.close.ensures
