use Rattle.rv_exec.specs.Running.{alone}
use Rattle.core_node.specs.View.{core_of}
use Rattle.core_node.proofs.AtOnce.{quick_nothing}
use Rattle.core_node.proofs.quick.need_quickly.Goals as goal

pub returns-in-Nothing-clause-does : goal.returns-in-Nothing-clause-does
returns-in-Nothing-clause-does c =
    let k = c.args.core.now in
    rw c.in-Nothing.is (quick_nothing k.config (alone c.args.inst.now) k.id.0 (core_of k) (core_of c.advance.new.core)
    c.advance.ensures.does)
