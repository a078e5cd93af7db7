use Rattle.std.proofs.Common.{◌≡◌, ◌+◌, ◌*◌, get_or, None}
use Rattle.rules_maps.specs.Words.{count_below}
use Rattle.spec_cache.specs.Useful.{useful_in, wants_of}
use Rattle.spec_cache.proofs.cache.SpecCache.nth_in_set.Given as goal

abbrev pub invariant-loop-way : goal.invariant-loop-way
invariant-loop-way l = count_below (λ y. useful_in (wants_of l.wants) l.set (get_or l.self-inside.frames.frames (l.set * l.ways + y) None))
    l.way + l.left ≡ l.initial.left
