-- What is done in a frame where it stands, so that what is counted of it stays.
use Rattle.std.specs.Prelude.{ℕ, ◌≡◌, Bool, true, false, ◌==◌, get_or, set, Option, Some, None}
use Rattle.spec_cache.specs.declared.frame.FrameView.{FrameView}
use Rattle.spec_cache.specs.Frame.{value_in, marked_frame, stored_frame}
use Rattle.spec_cache.specs.Held.{Held}
use Rattle.spec_cache.specs.Tracked.{IsAlike}

-- the way holds a frame of the line where the word is valid with this value, and a mark would change nothing
pub record IsHit (o : Option FrameView) (l k : ℕ) (mark : Bool) (x : ℕ) : Type 0 where
  pub frame : FrameView
  pub is : o ≡ Some frame
  pub line : frame.line.0 ≡ l
  pub value : value_in (Some frame) k ≡ Some x
  pub marked : mark ≡ true → marked_frame k frame ≡ frame

-- such a way of a cache
pub record Hits (h : Held) (l k : ℕ) (mark : Bool) (x : ℕ) : Type 0 where
  pub at : ℕ
  pub hit : IsHit (get_or h.frames at None) l k mark x

-- a word is stored in a frame of the line that has modified words and no dirty ones, and all that is counted of it is the same
pub record StoresInto (f : FrameView) (n : Option FrameView) (l k x : ℕ) (also : Bool) : Type 0 where
  pub line : f.line.0 ≡ l
  pub clean : f.dirty.0 ≡ 0
  pub modified : (f.modified.0 == 0) ≡ false
  pub alike : IsAlike f (stored_frame k x also f)
  pub is : n ≡ Some (stored_frame k x also f)

pub record IsStored (o n : Option FrameView) (l k x : ℕ) (also : Bool) : Type 0 where
  pub frame : FrameView
  pub was : o ≡ Some frame
  pub into : StoresInto frame n l k x also

-- such a way of a cache
pub record StoresAt (h n : Held) (l k x : ℕ) (also : Bool) : Type 0 where
  pub at : ℕ
  pub way : Option FrameView
  pub stored : IsStored (get_or h.frames at None) way l k x also
  pub is : n ≡ record h { frames = set h.frames at way }
