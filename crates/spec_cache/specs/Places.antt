-- A set of places below a size, as the list of those noted.
use Rattle.std.specs.Prelude.{ℕ, ◌<◌, ◌≡◌, ◌+◌, Bool, true, false, cond, List, [], ◌∷◌, length, get_or, None, Contains}
use Rattle.spec_cache.specs.Frame.{marked_in}
use Rattle.spec_cache.specs.Held.{Held, IsHeld}

pub record Noted : Type 0 where
  pub size : ℕ
  pub places : List ℕ

-- how many are true
unfoldable pub trues : List Bool → ℕ
trues [] = 0
trues (b ∷ bs) = cond b (trues bs + 1) (trues bs)

-- a flag for each place says whether it is noted, and each noted place has its flag
pub record IsNoted (size : ℕ) (flags : List Bool) (places : List ℕ) : Type 0 where
  pub flagged : length flags ≡ size
  pub found : (i : ℕ) → get_or flags i false ≡ true → Contains places i
  pub inside : (j : ℕ) → j < length places → get_or places j 0 < size
  pub count : length places ≡ trues flags

-- the ways are in order, and all marked frames stand at noted places
pub record IsIndexed (h : Held) (p : Noted) : Type 0 where
  pub in_order : IsHeld h
  pub size : p.size ≡ length h.frames
  pub marked : (i : ℕ) → marked_in (get_or h.frames i None) ≡ true → Contains p.places i
