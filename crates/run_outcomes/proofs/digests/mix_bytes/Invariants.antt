use Rattle.std.proofs.Common.{◌≡◌, take}
use Rattle.std.specs.List.{fold}
use Rattle.run_outcomes.specs.Digests.{mixed}
use Rattle.run_outcomes.proofs.digests.mix_bytes.Given as goal

abbrev pub invariant-loop-byte : goal.invariant-loop-byte
invariant-loop-byte l = l.sum ≡ fold (λ s byte. mixed s byte) l.first (take l.byte-index l.bytes)
