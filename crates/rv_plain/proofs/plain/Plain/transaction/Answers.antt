use Rattle.std.proofs.Common.{◌<◌, length, arith}
use Rattle.rv_plain.proofs.Faults.{no_transaction-if}
use Rattle.rv_plain.proofs.Transacted.{did-if, fault-if}
use Rattle.rv_plain.proofs.plain.Plain.transaction.Goals as goal

pub returns-clause-did : goal.returns-clause-did
returns-clause-did c =
    let lt : c.args.core.0 < length c.self.inside.cores = grind (arith, c.self.invariant) in
    rw (← c.self.view_is) (did-if c.self.inside.code c.self.inside.cores c.execute_core.new.cores c.self.inside.memory
    c.execute_core.new.memory c.args.core.0 c.args.n c.execute_core.result lt c.execute_core.ensures.does c.execute_core.ensures.others)

pub returns-clause-fault : goal.returns-clause-fault
returns-clause-fault c =
    rw (← c.self.view_is) (fault-if c.self.inside.code c.self.inside.cores c.self.inside.memory c.args.core.0 c.args.n
    c.execute_core.result c.execute_core.ensures.fault)

pub returns-clause-none : goal.returns-clause-none
returns-clause-none c =
    no_transaction-if c.args.self.now c.args.core.0 c.args.n c.execute_core.result (returns-clause-fault c)
