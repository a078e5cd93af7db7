-- Which ways of a cache may be emptied with use, in the order of set and way.
use Rattle.std.specs.Prelude.{ℕ, ◌/◌, ◌%◌, ◌*◌, Bool, false, not, ◌==◌, ◌&&◌, ◌||◌, List, Option, Some, None}
use Rattle.rules_maps.specs.Words.{those}
use Rattle.rules_maps.specs.Shape.{Shape}
use Rattle.rules_maps.specs.Cache.{Cache, is_marked, is_modified, is_dirty}

-- there is a number, and it is this one
abbrev pub is_number : Option ℕ → ℕ → Bool
is_number None n = false
is_number (Some m) n = m == n

-- what decides beside the cache: the core is alone, the line that it awaits, the set in which it waits for room
pub record Wants : Type 0 where
  pub alone : Bool
  pub awaited : Option ℕ
  pub room : Option ℕ

-- A way of set s may be emptied where its line isn't awaited, and is unmarked or the core is alone. It is of use where words
-- leave it, or the core waits for room in its set.
unfoldable pub is_useful_way : Wants → Cache → (set : ℕ) → Option ℕ → Bool
is_useful_way q c s None = false
is_useful_way q c s (Some l) =
    not (is_number q.awaited l) && (q.alone || not (is_marked c l)) && (is_modified c l || is_dirty c l || is_number q.room s)

-- way y of set s has the number s * ways + y
unfoldable pub useful_at : Shape → Wants → Cache → (number : ℕ) → Bool
useful_at sh q c i = is_useful_way q c (i / sh.ways) (c.at (i / sh.ways) (i % sh.ways))

-- the useful ways by their numbers, rising: by set, and by way in a set
unfoldable pub useful_ways : Shape → Wants → Cache → List ℕ
useful_ways sh q c = those (useful_at sh q c) (sh.sets * sh.ways)
