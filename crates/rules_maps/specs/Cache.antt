-- A core's cache as maps: which line each way holds, and for each word its value and its marks.
use Rattle.std.specs.Prelude.{ℕ, ◌<◌, ◌≡◌, Bool, true, false, not, cond, ◌==◌, ◌&&◌, ◌||◌, List, map, Option, Some, None, is_some}
use Rattle.std.specs.Prelude.{unwrap_or, if◌then◌else◌}
use Rattle.rules_maps.specs.Words.{any_below, all_below, those, lowest, or_else, eight, any_word, line_of, word_at}
use Rattle.rules_maps.specs.Masks.{mask_of}
use Rattle.rules_maps.specs.Nodes.{Tagged}
use Rattle.rules_maps.specs.Shape.{Shape, home, set_of, lines}

pub record Cache : Type 0 where
  pub at : ℕ → ℕ → Option ℕ  -- set, way ↦ the line that the way holds
  pub held : ℕ → Bool  -- the line has a frame
  pub value : ℕ → Option ℕ  -- the value of a valid word; None: the word is not valid
  pub read : ℕ → Bool  -- apart from valid: an invalidated word keeps its read mark
  pub modified : ℕ → Bool
  pub dirty : ℕ → Option ℕ  -- the tag of a dirty word

unfoldable pub empty_cache : Cache
empty_cache = record {
  at = λ s y. None;
  held = λ l. false;
  value = λ w. None;
  read = λ w. false;
  modified = λ w. false;
  dirty = λ w. None;
}

-- a frame is marked where one of its words is marked read or modified
unfoldable pub is_marked : Cache → ℕ → Bool
is_marked c l = any_word (λ w. c.read w || c.modified w) l

-- the way holds a line, and its frame is marked
unfoldable pub way_marked : Cache → Option ℕ → Bool
way_marked c None = false
way_marked c (Some l) = is_marked c l

-- the lowest way of the set that holds no line
unfoldable pub free_way : Shape → Cache → ℕ → Option ℕ
free_way sh c s = lowest (λ y. not (is_some (c.at s y))) sh.ways

unfoldable pub all_marked : Shape → Cache → ℕ → Bool
all_marked sh c s = all_below (λ y. way_marked c (c.at s y)) sh.ways

unfoldable pub is_modified : Cache → ℕ → Bool
is_modified c l = any_word c.modified l

unfoldable pub is_dirty : Cache → ℕ → Bool
is_dirty c l = any_word (λ w. is_some (c.dirty w)) l

unfoldable pub modified_mask : Cache → ℕ → ℕ
modified_mask c l = mask_of (λ k. c.modified (word_at l k))

unfoldable pub dirty_mask : Cache → ℕ → ℕ
dirty_mask c l = mask_of (λ k. is_some (c.dirty (word_at l k)))

-- the values of the line's dirty words, zero elsewhere
unfoldable pub dirty_words : Cache → ℕ → List ℕ
dirty_words c l = eight (λ k. if is_some (c.dirty (word_at l k)) then unwrap_or (c.value (word_at l k)) 0 else 0)

-- the first value that a word of the line has
unfoldable pub first_of_line : (ℕ → Option ℕ) → ℕ → Option ℕ
first_of_line f l =
    or_else (f (word_at l 0))
    (or_else (f (word_at l 1))
    (or_else (f (word_at l 2))
    (or_else (f (word_at l 3))
    (or_else (f (word_at l 4)) (or_else (f (word_at l 5)) (or_else (f (word_at l 6)) (f (word_at l 7))))))))

-- the tag of the line's first dirty word: all dirty words of a line have one tag
unfoldable pub dirty_tag : Cache → ℕ → ℕ
dirty_tag c l = unwrap_or (first_of_line c.dirty l) 0

-- the dirty words of a line with their tag, where it has any
unfoldable pub dirty_copy : Cache → ℕ → Option Tagged
dirty_copy c l = cond (is_dirty c l) (Some (record { line = l; mask = dirty_mask c l; words = dirty_words c l; tag = dirty_tag c l })) None

-- the lines at home at directory d with modified words, rising
unfoldable pub written_lines : Shape → Cache → ℕ → List ℕ
written_lines sh c d = those (λ l. d == home sh l && is_modified c l) (lines sh)

-- each of them with the mask of its modified words
unfoldable pub marks_by_home : Shape → Cache → ℕ → List (ℕ × ℕ)
marks_by_home sh c d = map (λ l. (l, modified_mask c l)) (written_lines sh c d)

-- a line at home at directory d has a modified word, a word that is marked read
unfoldable pub writes_at : Shape → Cache → ℕ → Bool
writes_at sh c d = any_below (λ l. d == home sh l && is_modified c l) (lines sh)

unfoldable pub reads_at : Shape → Cache → ℕ → Bool
reads_at sh c d = any_below (λ l. d == home sh l && any_word c.read l) (lines sh)

-- the frame of the line has a valid word
unfoldable pub keeps : Cache → ℕ → Bool
keeps c l = any_word (λ w. is_some (c.value w)) l

-- What holds of every cache that a core can have: the two ways of finding a line agree, each line
-- has at most one way, all that is kept of a word stands in a frame, and a frame has modified or
-- dirty words, not both, these valid and the dirty ones with one tag.
pub record IsCache (sh : Shape) (c : Cache) : Type 0 where
  pub placed : (s y l : ℕ) → c.at s y ≡ Some l → (s ≡ set_of sh l) × (y < sh.ways) × (c.held l ≡ true)
  pub held : (l : ℕ) → c.held l ≡ true → (y : ℕ) × (c.at (set_of sh l) y ≡ Some l)
  pub once : (s y z l : ℕ) → c.at s y ≡ Some l → c.at s z ≡ Some l → y ≡ z
  pub valued : (w : ℕ) → c.held (line_of w) ≡ false → c.value w ≡ None
  pub unread : (w : ℕ) → c.held (line_of w) ≡ false → c.read w ≡ false
  pub modified : (w : ℕ) → c.modified w ≡ true → is_some (c.value w) ≡ true
  pub dirty : (w : ℕ) → is_some (c.dirty w) ≡ true → is_some (c.value w) ≡ true
  pub either : (v w : ℕ) → line_of v ≡ line_of w → c.modified v ≡ true → c.dirty w ≡ None
  pub one_tag : (v w s t : ℕ) → line_of v ≡ line_of w → c.dirty v ≡ Some s → c.dirty w ≡ Some t → s ≡ t
