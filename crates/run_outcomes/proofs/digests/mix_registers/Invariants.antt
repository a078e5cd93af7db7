use Rattle.std.proofs.Common.{◌≡◌}
use Rattle.run_outcomes.specs.Digests.{mixed_registers}
use Rattle.run_outcomes.proofs.digests.mix_registers.Given as goal

abbrev pub invariant-loop-number : goal.invariant-loop-number
invariant-loop-number l = l.sum ≡ mixed_registers l.regs l.first l.number
