use Rattle.std.proofs.Common.{◌≡◌, take}
use Rattle.std.specs.List.{fold}
use Rattle.run_outcomes.specs.Digests.{mixed}
use Rattle.run_outcomes.proofs.digests.mix_changes.Given as goal

abbrev pub invariant-loop-w : goal.invariant-loop-w
invariant-loop-w l = l.sum ≡ fold (λ s change. mixed (mixed s change.0) change.1) l.first (take l.w-index l.changes)
