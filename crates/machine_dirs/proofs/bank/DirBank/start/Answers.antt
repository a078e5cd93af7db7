-- The bank is whole.
use Rattle.machine_dirs.proofs.bank.DirBank.start.Goals as goal

pub invariant_of-result : goal.invariant_of-result
invariant_of-result c = record { allowed = c.in_ok-dirs.ensures.allowed; dirs = c.in_ok-dirs.ensures.dirs }
