use Rattle.std.proofs.Common.{◌≡◌, take}
use Rattle.std.specs.List.{fold}
use Rattle.run_outcomes.specs.Digests.{mixed, mixed_bytes, end_digest}
use Rattle.run_outcomes.proofs.outcomes.mix_told.Given as goal

abbrev pub invariant-loop-core : goal.invariant-loop-core
invariant-loop-core l =
    l.sum ≡ fold (λ s core. mixed_bytes (mixed s (end_digest core.ended)) core.console) 0 (take l.core-index l.cores)
