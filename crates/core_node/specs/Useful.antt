-- Which evictions of a core are useful, in the order of set and way.
use Rattle.std.specs.Prelude.{ℕ, Bool, ◌&&◌, ◌||◌, List, map, Option, Some, None, is_some}
use Rattle.std.specs.List.{filter, flat_map}
use Rattle.rules_maps.specs.CacheUse.{Wants}
use Rattle.rules_maps.specs.Shape.{Shape}
use Rattle.rules_program.specs.Program.{Program}
use Rattle.rules_tcc.specs.Attempt.{is_solo}
use Rattle.rules_tcc.specs.CoreEvict.{core_evict}
use Rattle.rules_tcc.specs.Seen.{numbers}
use Rattle.rules_tcc.specs.State.{CoreState, Awaited}
use Rattle.rules_tcc.specs.Useful.{holds_written, is_this_set, room}

-- the eviction is enabled, and words leave the way or the core waits for room in its set
unfoldable pub evict_is_useful : Shape → Program → CoreState → (set way : ℕ) → Bool
evict_is_useful sh p s x y =
    is_some (core_evict sh x y s) && (holds_written s.cache (s.cache.at x y) || is_this_set (room sh p s) x)

-- the useful evictions of a core, each by its set and way
unfoldable pub useful_evicts : Shape → Program → CoreState → List (ℕ × ℕ)
useful_evicts sh p s =
    filter (λ q. evict_is_useful sh p s q.0 q.1) (flat_map (λ x. map (λ y. (x, y)) (numbers sh.ways)) (numbers sh.sets))

abbrev pub line_awaited : Option Awaited → Option ℕ
line_awaited None = None
line_awaited (Some a) = Some a.line

-- what a core asks its cache for, so that the cache finds these ways
abbrev pub wants_in : Shape → Program → CoreState → Wants
wants_in sh p s = record { alone = is_solo s.phase; awaited = line_awaited s.awaited; room = room sh p s }
