use Rattle.std.proofs.Common.{◌≡◌, take}
use Rattle.std.specs.List.{fold}
use Rattle.run_outcomes.specs.Digests.{mixed, core_digest}
use Rattle.run_outcomes.proofs.digests.mix_cores.Given as goal

abbrev pub invariant-loop-core : goal.invariant-loop-core
invariant-loop-core l = l.sum ≡ fold (λ s core. mixed s (core_digest core)) 0 (take l.core-index l.cores)
