-- Where a frame may be put that is given as plain data.
use Rattle.std.specs.Prelude.{ℕ, ◌+◌, ◌*◌, ◌<◌, ◌≡◌, get_or, None}
use Rattle.rules_maps.specs.Shape.{lines, set_of}
use Rattle.spec_cache.specs.declared.frame.FrameView.{FrameView}
use Rattle.spec_cache.specs.Held.{Held, FitsAt, frame_of}

-- the set and the way exist, and the way holds no line
pub record IsFree (h : Held) (s y : ℕ) : Type 0 where
  pub set_exists : s < h.config.sets
  pub way_exists : y < h.config.ways
  pub empty : get_or h.frames (s * h.config.ways + y) None ≡ None

-- the line is one of memory and belongs to the set, and no way holds it
pub record IsMissing (h : Held) (s l : ℕ) : Type 0 where
  pub exists : l < lines h.config
  pub placed : s ≡ set_of h.config l
  pub absent : frame_of h.frames l ≡ None

-- the way is free, and the frame may stand there
pub record MayStand (h : Held) (s y : ℕ) (f : FrameView) : Type 0 where
  pub free : IsFree h s y
  pub fits : FitsAt h (s * h.config.ways + y) f
