-- A frame: one line's words with their marks, what it says of each word, and how each call changes it.
use Rattle.std.specs.Prelude.{ℕ, ◌^◌, ◌<◌, ◌≡◌, ◌≢◌, Bool, true, false, not, cond, ◌==◌, ◌&&◌, List, length, get_or, slice_set, Option}
use Rattle.std.specs.Prelude.{Some, None, if◌then◌else◌}
use Rattle.tcc_base.specs.declared.access.Tagged.{Tagged}
use Rattle.rules_maps.specs.Masks.{has, minus, join, masked}
use Rattle.rules_maps.specs.Words.{eight}
use Rattle.spec_cache.specs.declared.frame.FrameView.{FrameView}

-- the value of a valid word, by its place in the line
unfoldable pub value_in : Option FrameView → ℕ → Option ℕ
value_in None k = None
value_in (Some f) k = if has f.valid.0 k then Some (get_or f.words k 0) else None

unfoldable pub read_in : Option FrameView → ℕ → Bool
read_in None k = false
read_in (Some f) k = has f.read.0 k

unfoldable pub modified_in : Option FrameView → ℕ → Bool
modified_in None k = false
modified_in (Some f) k = has f.modified.0 k

-- the tag of a dirty word
unfoldable pub dirty_in : Option FrameView → ℕ → Option ℕ
dirty_in None k = None
dirty_in (Some f) k = if has f.dirty.0 k then Some f.tag.0 else None

-- the way holds a frame with a marked word
unfoldable pub marked_in : Option FrameView → Bool
marked_in None = false
marked_in (Some f) = not (f.read.0 == 0 && f.modified.0 == 0)

-- the way holds this line
unfoldable pub holds_line : ℕ → Option FrameView → Bool
holds_line l None = false
holds_line l (Some f) = f.line.0 == l

unfoldable pub line_in : Option FrameView → Option ℕ
line_in None = None
line_in (Some f) = Some f.line.0

-- what holds of every frame: modified and dirty words are valid, and one of the two is empty
pub record IsFrame (f : FrameView) : Type 0 where
  pub eight_words : length f.words ≡ 8
  pub valid_fits : f.valid.0 < 256
  pub read_fits : f.read.0 < 256
  pub modified_fits : f.modified.0 < 256
  pub dirty_fits : f.dirty.0 < 256
  pub modified_valid : (k : ℕ) → has f.modified.0 k ≡ true → has f.valid.0 k ≡ true
  pub dirty_valid : (k : ℕ) → has f.dirty.0 k ≡ true → has f.valid.0 k ≡ true
  pub either : f.modified.0 ≢ 0 → f.dirty.0 ≡ 0

-- what holds of the frame of a way, where it has one
unfoldable pub IsWay : Option FrameView → Type 0
IsWay None = Unit {0}
IsWay (Some f) = IsFrame f

-- a frame of the line with no valid word
unfoldable pub empty_frame : ℕ → FrameView
empty_frame l = record {
  line = record { 0 = l };
  words = eight (λ _. 0);
  valid = record { 0 = 0 };
  read = record { 0 = 0 };
  modified = record { 0 = 0 };
  dirty = record { 0 = 0 };
  tag = record { 0 = 0 };
}

-- the word is marked read, unless it is modified
unfoldable pub marked_frame : ℕ → FrameView → FrameView
marked_frame k f = record f { read = record { 0 = join f.read.0 (minus (2 ^ k) f.modified.0) } }

unfoldable pub stored_frame : ℕ → ℕ → Bool → FrameView → FrameView
stored_frame k v also f = record f {
  words = slice_set f.words k v;
  valid = record { 0 = join f.valid.0 (2 ^ k) };
  read = record { 0 = cond also (join f.read.0 (2 ^ k)) f.read.0 };
  modified = record { 0 = join f.modified.0 (2 ^ k) };
  dirty = record { 0 = 0 };
}

-- the words with those that aren't valid taken from others
unfoldable pub filled_up : ℕ → List ℕ → List ℕ → List ℕ
filled_up valid ws others = eight (λ k. if has valid k then get_or ws k 0 else get_or others k 0)

unfoldable pub filled_frame : List ℕ → FrameView → FrameView
filled_frame ws f = record f {
  words = filled_up f.valid.0 f.words ws;
  valid = record { 0 = 255 };
}

-- the masked words that aren't modified become invalid and clean
unfoldable pub invalidated_frame : ℕ → FrameView → FrameView
invalidated_frame m f = record f {
  valid = record { 0 = minus f.valid.0 (minus m f.modified.0) };
  dirty = record { 0 = minus f.dirty.0 (minus m f.modified.0) };
}

unfoldable pub cleaned_frame : FrameView → FrameView
cleaned_frame f = record f { dirty = record { 0 = 0 } }

-- the masked words become invalid, clean and not modified
unfoldable pub dropped_frame : ℕ → FrameView → FrameView
dropped_frame m f = record f {
  valid = record { 0 = minus f.valid.0 m };
  modified = record { 0 = minus f.modified.0 m };
  dirty = record { 0 = minus f.dirty.0 m };
}

unfoldable pub rolled_back_frame : FrameView → FrameView
rolled_back_frame f = record f {
  valid = record { 0 = minus f.valid.0 f.modified.0 };
  read = record { 0 = 0 };
  modified = record { 0 = 0 };
}

unfoldable pub read_cleared_frame : FrameView → FrameView
read_cleared_frame f = record f { read = record { 0 = 0 } }

-- a frame with modified words has no dirty ones; one without keeps its dirty ones
unfoldable pub committed_modified : Bool → ℕ → FrameView → FrameView
committed_modified true t f = record f { read = record { 0 = 0 } }
committed_modified false t f = record f { read = record { 0 = 0 }; modified = record { 0 = 0 }; dirty = f.modified; tag = record { 0 = t } }

unfoldable pub committed_frame : ℕ → FrameView → FrameView
committed_frame t f = committed_modified (f.modified.0 == 0) t f

-- the dirty words with their tag, where there are any
unfoldable pub dirty_part : FrameView → Option Tagged
dirty_part f = cond (f.dirty.0 == 0) None (Some (record { line = f.line; mask = f.dirty; words = masked f.dirty.0 f.words; tag = f.tag }))
