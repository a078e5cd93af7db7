-- The cores so far have halted.
use Rattle.std.proofs.Common.{◌≡◌, ℕ, ◌<◌}
use Rattle.rules_tcc.specs.State.{Halted}
use Rattle.machine_cores.specs.Bank.{cores_of}
use Rattle.bus_tcc.proofs.bank.BusBank.all_halted.Given as goal

abbrev pub invariant-loop-core : goal.invariant-loop-core
invariant-loop-core l = (c : ℕ) → c < l.core-index → (cores_of l.fn.self c).phase ≡ Halted
