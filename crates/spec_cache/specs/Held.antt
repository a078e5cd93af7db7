-- The frames of a cache as a list by set and way, and the maps that they stand for.
use Rattle.std.specs.Prelude.{ℕ, ◌+◌, ◌*◌, ◌/◌, ◌%◌, ◌<◌, ◌≡◌, cond, nat_lt, List, [], ◌∷◌, length, get_or, Option, Some, None, is_some}
use Rattle.std.specs.Prelude.{if◌then◌else◌}
use Rattle.tcc_base.specs.Settings.{Settings, IsAllowed}
use Rattle.rules_maps.specs.Words.{line_of, place_of}
use Rattle.rules_maps.specs.Shape.{lines}
use Rattle.rules_maps.specs.Cache.{Cache}
use Rattle.spec_cache.specs.declared.frame.FrameView.{FrameView}
use Rattle.spec_cache.specs.Frame.{value_in, read_in, modified_in, dirty_in, holds_line, line_in, IsFrame, IsWay}

-- the settings, and the frame of each way where it has one: way y of set s stands at s * ways + y
pub record Held : Type 0 where
  pub config : Settings
  pub frames : List (Option FrameView)

-- the frame of a line
unfoldable pub frame_of : List (Option FrameView) → ℕ → Option FrameView
frame_of [] l = None
frame_of (o ∷ os) l = cond (holds_line l o) o (frame_of os l)

-- the frame at a set and way
unfoldable pub frame_at : Held → ℕ → ℕ → Option FrameView
frame_at h s y = if nat_lt y h.config.ways then get_or h.frames (s * h.config.ways + y) None else None

-- what the frames say of each way, line and word
unfoldable pub maps : Held → Cache
maps h = record {
  at = λ s y. line_in (frame_at h s y);
  held = λ l. is_some (frame_of h.frames l);
  value = λ w. value_in (frame_of h.frames (line_of w)) (place_of w);
  read = λ w. read_in (frame_of h.frames (line_of w)) (place_of w);
  modified = λ w. modified_in (frame_of h.frames (line_of w)) (place_of w);
  dirty = λ w. dirty_in (frame_of h.frames (line_of w)) (place_of w);
}

-- what holds of the frames of every cache: each line stands in its own set, and once
pub record IsHeld (h : Held) : Type 0 where
  pub allowed : IsAllowed h.config
  pub filled_ways : length h.frames ≡ h.config.sets * h.config.ways
  pub frame : (i : ℕ) → IsWay (get_or h.frames i None)
  pub placed : (i : ℕ) (f : FrameView) → get_or h.frames i None ≡ Some f → f.line.0 % h.config.sets ≡ i / h.config.ways
  pub exists : (i : ℕ) (f : FrameView) → get_or h.frames i None ≡ Some f → f.line.0 < lines h.config
  pub once : (i j : ℕ) (f g : FrameView) → get_or h.frames i None ≡ Some f → get_or h.frames j None ≡ Some g → f.line.0 ≡ g.line.0 → i ≡ j

-- a frame may stand at this place: its line belongs to the set and stands nowhere else
pub record FitsAt (h : Held) (i : ℕ) (f : FrameView) : Type 0 where
  pub frame : IsFrame f
  pub placed : f.line.0 % h.config.sets ≡ i / h.config.ways
  pub exists : f.line.0 < lines h.config
  pub alone : (j : ℕ) (g : FrameView) → get_or h.frames j None ≡ Some g → g.line.0 ≡ f.line.0 → j ≡ i

unfoldable pub FitsWay : Held → ℕ → Option FrameView → Type 0
FitsWay h i None = Unit {0}
FitsWay h i (Some f) = FitsAt h i f

-- the way at this place holds the line, with this frame
pub record IsWayOf (h : Held) (l : ℕ) (p : ℕ × FrameView) : Type 0 where
  pub inside : p.0 < length h.frames
  pub here : get_or h.frames p.0 None ≡ Some p.1
  pub line : p.1.line.0 ≡ l
