-- Ways counted set by set.
use Rattle.std.specs.Prelude.{ℕ, ◌+◌, ◌*◌, ◌/◌, ◌<◌, ◌≡◌, Bool, true, false, not, ◌==◌, ◌&&◌, List, length, get_or, Option, Some, None}
use Rattle.rules_maps.specs.Words.{count_below}
use Rattle.rules_maps.specs.CacheUse.{Wants, useful_ways}
use Rattle.spec_cache.specs.declared.frame.FrameView.{FrameView}
use Rattle.spec_cache.specs.Useful.{is_marked_frame, is_written_frame, useful_in}
use Rattle.spec_cache.specs.Held.{Held, maps}

-- a number for each set, for each block of 32 sets, and for all
pub record Counted : Type 0 where
  pub counts : List ℕ
  pub blocks : List ℕ
  pub all : ℕ

-- the way may be emptied with use where the core isn't alone: it has a dirty word and no mark
unfoldable pub idle_way : Option FrameView → Bool
idle_way None = false
idle_way (Some f) = not (f.dirty.0 == 0) && not (is_marked_frame f)

-- and where it is alone: it has a modified or a dirty word
unfoldable pub used_way : Option FrameView → Bool
used_way None = false
used_way (Some f) = is_written_frame f

-- how many of n ways in row r pass a test
abbrev pub count_row : (Option FrameView → Bool) → List (Option FrameView) → (n r : ℕ) → ℕ
count_row q fs n r = count_below (λ y. q (get_or fs (r * n + y) None)) n

-- how many ways of a set pass it, and of a block of 32 sets
unfoldable pub count_set : (Option FrameView → Bool) → Held → ℕ → ℕ
count_set q h s = count_row q h.frames h.config.ways s

unfoldable pub count_block : (Option FrameView → Bool) → Held → ℕ → ℕ
count_block q h b = count_row q h.frames (h.config.ways * 32) b

-- the numbers are those of the ways that pass the test
pub record IsPerSet (q : Option FrameView → Bool) (h : Held) (p : Counted) : Type 0 where
  pub sets : length p.counts ≡ h.config.sets
  pub each : (s : ℕ) → s < h.config.sets → get_or p.counts s 0 ≡ count_set q h s
  pub blocks : (b : ℕ) → b < 32 → get_or p.blocks b 0 ≡ count_block q h b
  pub all : p.all ≡ count_below (λ i. q (get_or h.frames i None)) (length h.frames)

-- way y of the set passes the test, and as many ways of it before
pub record IsNthWay (q : Option FrameView → Bool) (h : Held) (s n y : ℕ) : Type 0 where
  pub exists : y < h.config.ways
  pub passes : q (get_or h.frames (s * h.config.ways + y) None) ≡ true
  pub before : count_below (λ z. q (get_or h.frames (s * h.config.ways + z) None)) y ≡ n

-- how many ways before set s may be emptied with use
abbrev pub useful_before : Held → Wants → (s : ℕ) → ℕ
useful_before h q s = count_below (λ i. useful_in q (i / h.config.ways) (get_or h.frames i None)) (s * h.config.ways)

-- set and way of the k-th way that may be emptied with use
pub record IsUsefulWay (h : Held) (q : Wants) (k : ℕ) (p : ℕ × ℕ) : Type 0 where
  pub more : k < length (useful_ways h.config q (maps h))
  pub set_exists : p.0 < h.config.sets
  pub way_exists : p.1 < h.config.ways
  pub is : get_or (useful_ways h.config q (maps h)) k 0 ≡ p.0 * h.config.ways + p.1
