-- The sets so far.
use Rattle.std.proofs.Common.{◌≡◌, ◌<◌, ℕ, Some}
use Rattle.rules_maps.specs.Cache.{Cache, dirty_mask}
use Rattle.core_node.specs.View.{core_of}
use Rattle.net_core.specs.Away.{Covers}
use Rattle.net_core.proofs.noting.note_core.Given as goal

abbrev pub invariant-loop-set : goal.invariant-loop-set
invariant-loop-set l =
    let c : Cache = (core_of l.fn.core).cache in
    Covers l.fn.notes l.notes
    (λ k. (s : ℕ) → s < l.set → (y : ℕ) → y < l.fn.core.config.ways → c.at s y ≡ Some k → dirty_mask c k ≡ 0)
