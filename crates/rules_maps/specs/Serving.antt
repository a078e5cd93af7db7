-- The TID that a directory serves now, and the larger ones of which it knows already that they give up.
use Rattle.std.specs.Prelude.{ℕ, zero, suc, ◌+◌, ◌-◌, Bool, true, false, List, [], ◌∷◌, get_or, nat_lt, ◌==◌, ◌&&◌, if◌then◌else◌}

-- skips: of the TIDs from serving + 1 on, in order, whether each was skipped; those behind the list weren't
pub record Serving : Type 0 where
  pub serving : ℕ
  pub skips : List Bool

unfoldable pub first_serving : Serving
first_serving = record { serving = 1; skips = [] }

-- the TID is kept as skipped
unfoldable pub is_skipped : Serving → ℕ → Bool
is_skipped s t = nat_lt s.serving t && get_or s.skips (t - s.serving - 1) false

-- t is the next TID to serve, unless it was skipped; the list begins at t
unfoldable pub serve_from : ℕ → List Bool → Serving
serve_from t [] = record { serving = t; skips = [] }
serve_from t (true ∷ skips) = serve_from (t + 1) skips
serve_from t (false ∷ skips) = record { serving = t; skips = skips }

-- the next TID that was not skipped is served, and the skips below it are forgotten
unfoldable pub advance : Serving → Serving
advance s = serve_from (s.serving + 1) s.skips

-- the k-th of the list is skipped
unfoldable pub skip_at : ℕ → List Bool → List Bool
skip_at zero [] = true ∷ []
skip_at zero (b ∷ skips) = true ∷ skips
skip_at (suc k) [] = false ∷ skip_at k []
skip_at (suc k) (b ∷ skips) = b ∷ skip_at k skips

-- a larger TID is kept
unfoldable pub kept : ℕ → Serving → Serving
kept t s = record s { skips = skip_at (t - s.serving - 1) s.skips }

-- a larger TID is kept, the served one advances, a lower one changes nothing
unfoldable pub skipped : ℕ → Serving → Serving
skipped t s =
    if nat_lt t s.serving then s
    else if s.serving == t then advance s
    else kept t s
