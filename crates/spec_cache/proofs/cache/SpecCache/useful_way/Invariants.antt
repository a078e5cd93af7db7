use Rattle.std.proofs.Common.{◌≡◌, ◌+◌, ◌*◌}
use Rattle.spec_cache.specs.Useful.{wants_of}
use Rattle.spec_cache.specs.PerSet.{useful_before}
use Rattle.spec_cache.proofs.cache.SpecCache.useful_way.Given as goal

abbrev pub invariant-loop-block : goal.invariant-loop-block
invariant-loop-block l = useful_before l.self (wants_of l.wants) (l.block * 32) + l.left ≡ l.k
