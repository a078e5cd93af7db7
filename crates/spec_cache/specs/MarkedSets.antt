-- The sets of a cache in which a frame is marked.
use Rattle.std.specs.Prelude.{ℕ, ◌/◌, Bool, List, get_or, Option, Some, None, if◌then◌else◌}
use Rattle.rules_maps.specs.Words.{any_below}
use Rattle.rules_maps.specs.Shape.{Shape}
use Rattle.rules_maps.specs.Cache.{Cache, way_marked}
use Rattle.spec_cache.specs.declared.frame.FrameView.{FrameView}
use Rattle.spec_cache.specs.Frame.{marked_in}

-- a way of the set holds a marked frame
unfoldable pub has_marked : Shape → Cache → (set : ℕ) → Bool
has_marked sh c x = any_below (λ y. way_marked c (c.at x y)) sh.ways

-- the set of a place, of sets of as many ways, where the frame there is marked
abbrev pub marked_set : (ways : ℕ) → List (Option FrameView) → (place : ℕ) → Option ℕ
marked_set n fs i = if marked_in (get_or fs i None) then Some (i / n) else None
