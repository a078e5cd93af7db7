use Rattle.core_node.proofs.AtOnce.{quick_happened}
use Rattle.core_node.proofs.exec.exec.Goals as goal

pub returns-then-exec_quickly-clause-does : goal.returns-then-exec_quickly-clause-does
returns-then-exec_quickly-clause-does c =
    quick_happened _ c.args.out.now c.exec_quickly.new.core (rw c.if-exec_quickly.true at c.exec_quickly.ensures.does)
