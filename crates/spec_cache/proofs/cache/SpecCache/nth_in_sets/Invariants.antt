use Rattle.std.proofs.Common.{◌≡◌, ◌+◌}
use Rattle.spec_cache.specs.Useful.{wants_of}
use Rattle.spec_cache.specs.PerSet.{useful_before}
use Rattle.spec_cache.proofs.cache.SpecCache.nth_in_sets.Given as goal

abbrev pub invariant-loop-set : goal.invariant-loop-set
invariant-loop-set l = useful_before l.self (wants_of l.wants) l.set + l.left
    ≡ useful_before l.self (wants_of l.wants) l.first + l.initial.left
