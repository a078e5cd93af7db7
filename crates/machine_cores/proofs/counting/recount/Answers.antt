-- The number of useful evictions fits.
use Rattle.machine_cores.proofs.Limits.{evicts-fit}
use Rattle.machine_cores.proofs.counting.recount.Goals as goal

pub overflow_cast-evictions : goal.overflow_cast-evictions
overflow_cast-evictions c = evicts-fit c.args.core.now.config _ _ _ c.requires.allowed c.uses-may_execute.ensures.evicts
