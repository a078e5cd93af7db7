-- What a way holds of the lines at home at one directory.
use Rattle.std.specs.Prelude.{ℕ, ◌%◌, ◌≡◌, Bool, false, not, ◌==◌, ◌&&◌, List, get_or, Contains, Option, Some, None, if◌then◌else◌}
use Rattle.tcc_base.specs.declared.names.LineAddr.{LineAddr}
use Rattle.tcc_base.specs.declared.names.Mask.{Mask}
use Rattle.spec_cache.specs.declared.frame.FrameView.{FrameView}

-- a line at home there has a frame here with a read mark; dirs is the number of directories
unfoldable pub reads_in : ℕ → ℕ → Option FrameView → Bool
reads_in dirs d None = false
reads_in dirs d (Some f) = d == f.line.0 % dirs && not (f.read.0 == 0)

-- the line, where it is at home there and its frame has a modified word
unfoldable pub written_in : ℕ → ℕ → Option FrameView → Option ℕ
written_in dirs d None = None
written_in dirs d (Some f) = if d == f.line.0 % dirs && not (f.modified.0 == 0) then Some f.line.0 else None

-- the list has just what is found at some place
pub record Collects (found : ℕ → Option ℕ) (xs : List ℕ) : Type 0 where
  pub each : (i x : ℕ) → found i ≡ Some x → Contains xs x
  pub only : (x : ℕ) → Contains xs x → (i : ℕ) × (found i ≡ Some x)

-- the lines at home there that have a modified word
abbrev pub written_found : ℕ → ℕ → List (Option FrameView) → ℕ → Option ℕ
written_found dirs d fs i = written_in dirs d (get_or fs i None)

-- a line's number with its mask
abbrev pub mark_of : LineAddr × Mask → ℕ × ℕ
mark_of m = (m.0.0, m.1.0)
