-- A core is put into its place.
use Rattle.machine_cores.proofs.Banks.{given-allowed, given-whole}
use Rattle.machine_cores.proofs.bank.CoreBank.restore.Goals as goal

pub recount-requires-clause-allowed : goal.recount-requires-clause-allowed
recount-requires-clause-allowed c =
    given-allowed _ c.self.inside _ _ c.args.node _ c.self-inside.view_is c.self.invariant c.self.view_is
    (c.is_own.ensures.0 c.if-not-is_own.false) c.index.ensures

pub invariant_of-self : goal.invariant_of-self
invariant_of-self c =
    given-whole _ c.self.inside _ _ c.args.node _ c.self-inside.view_is c.self.invariant c.self.view_is
    (c.is_own.ensures.0 c.if-not-is_own.false) c.index.ensures _ _ c.recount.ensures.execs c.recount.ensures.evicts
