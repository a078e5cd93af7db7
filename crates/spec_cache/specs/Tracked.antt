-- What is counted of a cache's ways, and the line of each way apart from its frame.
use Rattle.std.specs.Prelude.{ℕ, ◌*◌, ◌%◌, ◌<◌, ◌≤◌, ◌≡◌, Bool, false, not, ◌==◌, List, length, get_or, map, Option, Some, None}
use Rattle.std.specs.Prelude.{if◌then◌else◌}
use Rattle.rules_maps.specs.Words.{count_below}
use Rattle.spec_cache.specs.declared.frame.FrameView.{FrameView}
use Rattle.spec_cache.specs.Home.{reads_in}
use Rattle.spec_cache.specs.Useful.{writes_in, dirty_way}
use Rattle.spec_cache.specs.Held.{Held}
use Rattle.spec_cache.specs.PerSet.{Counted, idle_way, used_way, IsPerSet}

-- how many ways pass a test
unfoldable pub count_ways : (Option FrameView → Bool) → List (Option FrameView) → ℕ
count_ways q fs = count_below (λ i. q (get_or fs i None)) (length fs)

-- the home of a way's line, where it has a modified word, a word that is marked read
unfoldable pub written_home : ℕ → Option FrameView → Option ℕ
written_home dirs None = None
written_home dirs (Some f) = if not (f.modified.0 == 0) then Some (f.line.0 % dirs) else None

unfoldable pub read_home : ℕ → Option FrameView → Option ℕ
read_home dirs None = None
read_home dirs (Some f) = if not (f.read.0 == 0) then Some (f.line.0 % dirs) else None

-- there is a home, and it is this one
abbrev pub is_home : Option ℕ → ℕ → Bool
is_home None d = false
is_home (Some m) d = d == m

-- the line of a way, and where it holds none a number that no line has
unfoldable pub tag_of : Option FrameView → ℕ
tag_of None = 4294967295
tag_of (Some f) = f.line.0

-- frames of one line, with read, modified and dirty words alike: all that is counted of them is the same
pub record IsAlike (f g : FrameView) : Type 0 where
  pub line : f.line.0 ≡ g.line.0
  pub read : (f.read.0 == 0) ≡ (g.read.0 == 0)
  pub modified : (f.modified.0 == 0) ≡ (g.modified.0 == 0)
  pub dirty : (f.dirty.0 == 0) ≡ (g.dirty.0 == 0)

-- ways with frames that are alike
abbrev pub AreAlike : Option FrameView → Option FrameView → Type 0
AreAlike None p = ⊥
AreAlike (Some f) None = ⊥
AreAlike (Some f) (Some g) = IsAlike f g

-- the tags are those of the ways, and the numbers say by home how many ways are written and read, how many are dirty, and by
-- set how many may be emptied with use
pub record IsTracked (h : Held) (ts ws rs : List ℕ) (n : ℕ) (i u : Counted) : Type 0 where
  pub tags : ts ≡ map tag_of h.frames
  pub written : (d : ℕ) → d < 64 → get_or ws d 0 ≡ count_ways (writes_in h.config.dirs d) h.frames
  pub read : (d : ℕ) → d < 64 → get_or rs d 0 ≡ count_ways (reads_in h.config.dirs d) h.frames
  pub dirty : n ≡ count_ways dirty_way h.frames
  pub idle : IsPerSet idle_way h i
  pub used : IsPerSet used_way h u
  pub whole : length h.frames ≡ h.config.sets * h.config.ways
  pub small : length h.frames ≤ 16384
