-- The cores so far are at rest.
use Rattle.std.proofs.Common.{ℕ, ◌<◌}
use Rattle.machine_cores.specs.Bank.{cores_of}
use Rattle.machine_cores.specs.Rest.{IsAtRest}
use Rattle.machine_cores.proofs.bank.CoreBank.all_rest.Given as goal

abbrev pub invariant-loop-core : goal.invariant-loop-core
invariant-loop-core l = (c : ℕ) → c < l.core-index → IsAtRest l.fn.self.code.settings (cores_of l.fn.self c)
