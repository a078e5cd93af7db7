-- The ways so far.
use Rattle.std.proofs.Common.{◌≡◌, ◌<◌, ℕ, Some}
use Rattle.rules_maps.specs.Cache.{Cache, dirty_mask}
use Rattle.core_node.specs.View.{core_of}
use Rattle.net_core.specs.Away.{Covers}
use Rattle.net_core.proofs.noting.note_set.Given as goal

abbrev pub invariant-loop-way : goal.invariant-loop-way
invariant-loop-way l =
    let c : Cache = (core_of l.fn.core).cache in
    Covers l.fn.notes l.notes (λ k. (y : ℕ) → y < l.way → c.at l.fn.set y ≡ Some k → dirty_mask c k ≡ 0)
