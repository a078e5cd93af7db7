-- The cores so far.
use Rattle.std.proofs.Common.{◌<◌, ℕ}
use Rattle.machine_cores.specs.Bank.{cores_of}
use Rattle.machine_parts.specs.Cores.{IsGoodCore}
use Rattle.machine_parts.proofs.cores.are_good_cores.Given as goal

abbrev pub invariant-loop-c : goal.invariant-loop-c
invariant-loop-c l = (c : ℕ) → c < l.c → IsGoodCore l.fn.cores.code.settings l.fn.events (cores_of l.fn.cores c)
