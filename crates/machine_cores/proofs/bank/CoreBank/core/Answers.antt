-- A core of the bank.
use Rattle.machine_cores.proofs.Banks.{data-here, here, state-here}
use Rattle.machine_cores.proofs.bank.CoreBank.core.Goals as goal

pub returns-clause-state : goal.returns-clause-state
returns-clause-state c =
    state-here _ _ _ _ (here _ c.self.inside _ _ _ c.self-inside.view_is c.self.invariant c.self.view_is c.requires c.index.ensures)

pub returns-clause-data : goal.returns-clause-data
returns-clause-data c =
    data-here _ _ _ _ (here _ c.self.inside _ _ _ c.self-inside.view_is c.self.invariant c.self.view_is c.requires c.index.ensures)
