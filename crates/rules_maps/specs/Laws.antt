-- What is proved of these maps: each statement is the contract of an empty function of this crate.
use Rattle.std.specs.Prelude.{ℕ, if◌then◌else◌, ◌^◌, ◌<◌, ◌≡◌, ◌↔◌, ◌⊎◌, Bool, true, false, not, ◌&&◌, ◌||◌, ◌==◌, List, Option, Some, None}
use Rattle.std.specs.Prelude.{is_some, Contains, AllPairs, MatchOption, length, get_or}
use Rattle.rules_maps.specs.Shape.{Shape, set_of}
use Rattle.rules_maps.specs.Cache.{Cache, IsCache, empty_cache, way_marked, modified_mask}
use Rattle.rules_maps.specs.CacheChange.{marked, stored, placed, filled, invalidated, cleaned, evicted, rolled_back, read_cleared}
use Rattle.rules_maps.specs.CacheChange.{committed}
use Rattle.rules_maps.specs.CacheChange.{word_dropped, words_dropped}
use Rattle.rules_maps.specs.CacheLook.{look_line, look_load, reads_masked, Hit, Miss, NeedsRoom, Overflow}
use Rattle.rules_maps.specs.Spilled.{Spilled, spill, spill_line}
use Rattle.rules_maps.specs.Lines.{Lines, with_mark}
use Rattle.rules_maps.specs.Words.{line_of, place_of, those, count_below, any_below, all_below, lowest, any_word}
use Rattle.rules_maps.specs.Masks.{has, mask_of, minus, meet, join}
use Rattle.rules_maps.specs.Serving.{Serving, advance, kept, is_skipped, first_serving}
use Rattle.rules_maps.specs.Judge.{judge, Current, TooEarly}

-- a mask made from a set of places holds exactly these, and a mask is made from its own places
abbrev pub MaskHolds : Type 0
MaskHolds = (p : ℕ → Bool) (k : ℕ) → k < 8 → has (mask_of p) k ≡ p k

abbrev pub MaskOfItself : Type 0
MaskOfItself = (m : ℕ) → m < 256 → mask_of (has m) ≡ m

abbrev pub MaskSmall : Type 0
MaskSmall = (p : ℕ → Bool) → mask_of p < 256

abbrev pub HasMinus : Type 0
HasMinus = (m n k : ℕ) → has (minus m n) k ≡ has m k && not (has n k)

abbrev pub HasMeet : Type 0
HasMeet = (m n k : ℕ) → has (meet m n) k ≡ has m k && has n k

abbrev pub HasJoin : Type 0
HasJoin = (m n k : ℕ) → has (join m n) k ≡ has m k || has n k

-- the served TID rises, past TIDs that were skipped alone, to one that wasn't, and the skips above it stay
abbrev pub AdvanceRises : Type 0
AdvanceRises = (s : Serving) → s.serving < (advance s).serving

abbrev pub AdvancePast : Type 0
AdvancePast = (s : Serving) (t : ℕ) → s.serving < t → t < (advance s).serving → is_skipped s t ≡ true

abbrev pub AdvanceStops : Type 0
AdvanceStops = (s : Serving) → is_skipped s (advance s).serving ≡ false

abbrev pub AdvanceKeeps : Type 0
AdvanceKeeps = (s : Serving) (t : ℕ) → (advance s).serving < t → is_skipped (advance s) t ≡ is_skipped s t

-- a larger TID that is kept is one more skip
abbrev pub KeptSkips : Type 0
KeptSkips = (t : ℕ) (s : Serving) (u : ℕ) → s.serving < t → is_skipped (kept t s) u ≡ (u == t) || is_skipped s u

abbrev pub FirstSkips : Type 0
FirstSkips = (t : ℕ) → is_skipped first_serving t ≡ false

-- each change of a cache keeps what holds of every cache
pub record ChangesKeep (sh : Shape) (c : Cache) : Type 0 where
  pub marks : (w : ℕ) → c.held (line_of w) ≡ true → IsCache sh (marked w c)
  pub stores : (w x : ℕ) (also : Bool) → c.held (line_of w) ≡ true → IsCache sh (stored w x also c)
  pub places : (l : ℕ) → c.held l ≡ false → IsCache sh (placed sh l c)
  pub fills : (l : ℕ) (ws : List ℕ) → c.held l ≡ true → IsCache sh (filled l ws c)
  pub invalidates : (l m : ℕ) → IsCache sh (invalidated l m c)
  pub cleans : (l : ℕ) → IsCache sh (cleaned l c)
  pub evicts : (s y : ℕ) → IsCache sh (evicted s y c)
  pub rolls_back : IsCache sh (rolled_back c)
  pub clears_read : IsCache sh (read_cleared c)
  pub commits : (t : ℕ) → IsCache sh (committed t c)
  pub drops_word : (w : ℕ) → IsCache sh (word_dropped w c)
  pub drops_words : (f : ℕ → Option ℕ) → IsCache sh (words_dropped f c)

abbrev pub CachesKeep : Type 0
CachesKeep = (sh : Shape) (c : Cache) → IsCache sh c → ChangesKeep sh c

abbrev pub CacheBegins : Type 0
CacheBegins = (sh : Shape) → IsCache sh empty_cache

-- the list of the numbers that pass a test holds exactly these, each before all larger ones
abbrev pub ThoseHold : Type 0
ThoseHold = (p : ℕ → Bool) (n k : ℕ) → Contains (those p n) k ↔ (k < n) × (p k ≡ true)

abbrev pub ThoseRise : Type 0
ThoseRise = (p : ℕ → Bool) (n : ℕ) → AllPairs (λ x y. x < y) (those p n)

abbrev pub ThoseCount : Type 0
ThoseCount = (p : ℕ → Bool) (n : ℕ) → length (those p n) ≡ count_below p n

-- the three tests over numbers
abbrev pub AnyBelow : Type 0
AnyBelow = (p : ℕ → Bool) (n : ℕ) → (any_below p n ≡ true) ↔ ((k : ℕ) × (k < n) × (p k ≡ true))

abbrev pub AllBelow : Type 0
AllBelow = (p : ℕ → Bool) (n : ℕ) → (all_below p n ≡ true) ↔ ((k : ℕ) → k < n → p k ≡ true)

abbrev pub LowestBelow : Type 0
LowestBelow = (p : ℕ → Bool) (n : ℕ)
    → MatchOption (lowest p n) ((k : ℕ) → k < n → p k ≡ false) (λ k. (k < n) × (p k ≡ true) × ((j : ℕ) → j < k → p j ≡ false))

-- what a directory does with words that come home
abbrev pub JudgesWaits : Type 0
JudgesWaits = (owner : Option ℕ) (tag from back : ℕ) → (judge owner tag from back ≡ TooEarly) ↔ (tag < back)

abbrev pub JudgesTakes : Type 0
JudgesTakes = (owner : Option ℕ) (tag from back : ℕ) → (judge owner tag from back ≡ Current) ↔ ((back ≡ tag) × (owner ≡ Some from))

abbrev pub HasPow : Type 0
HasPow = (k j : ℕ) → has (2 ^ k) j ≡ (j == k)

abbrev pub HasZero : Type 0
HasZero = (k : ℕ) → has 0 k ≡ false

-- after a roll back there is nothing to commit
abbrev pub NothingLeft : Type 0
NothingLeft = (t w : ℕ) (c : Cache) → (committed t (rolled_back c)).dirty w ≡ c.dirty w

-- a word is hit exactly where it is valid, with its value
abbrev pub HitsValid : Type 0
HitsValid = (sh : Shape) (w x : ℕ) (c : Cache) → (look_load sh w c ≡ Hit x) ↔ (c.value w ≡ Some x)

-- all ways of the set hold marked frames
abbrev pub FullSet : Shape → Cache → ℕ → Type 0
FullSet sh c s = (y : ℕ) → y < sh.ways → way_marked c (c.at s y) ≡ true

-- a line with no valid word is a miss exactly where it has a frame or its set has a free way
abbrev pub LooksMiss : Type 0
LooksMiss = (sh : Shape) (l : ℕ) (c : Cache) → (look_line sh l c ≡ Miss) ↔
    ((c.held l ≡ true) ⊎ ((y : ℕ) × (y < sh.ways) × (c.at (set_of sh l) y ≡ None)))

-- it overflows exactly where it has no frame and all ways of its set hold marked ones
abbrev pub LooksOverflow : Type 0
LooksOverflow = (sh : Shape) (l s : ℕ) (c : Cache) → (look_line sh l c ≡ Overflow s) ↔
    ((s ≡ set_of sh l) × (c.held l ≡ false) × FullSet sh c s)

-- it needs room exactly where it has no frame, all ways of its set hold frames and one of them is unmarked
abbrev pub LooksRoom : Type 0
LooksRoom = (sh : Shape) (l s : ℕ) (c : Cache) → (look_line sh l c ≡ NeedsRoom s) ↔
    ((s ≡ set_of sh l) × (c.held l ≡ false) × ((y : ℕ) → y < sh.ways → is_some (c.at s y) ≡ true) ×
    ((y : ℕ) × (y < sh.ways) × (way_marked c (c.at s y) ≡ false)))

-- some word of a line passes a test; a masked word of it is marked read
abbrev pub AnyWord : Type 0
AnyWord = (p : ℕ → Bool) (l : ℕ) → (any_word p l ≡ true) ↔ ((w : ℕ) × (l ≡ line_of w) × (p w ≡ true))

abbrev pub ReadsMasked : Type 0
ReadsMasked = (l m : ℕ) (c : Cache) → (reads_masked l m c ≡ true) ↔
    ((w : ℕ) × (l ≡ line_of w) × (has m (place_of w) ≡ true) × (c.read w ≡ true))

-- to empty a frame spills its modified words with the values that they have there
abbrev pub SpillsModified : Type 0
SpillsModified = (l : ℕ) (c : Cache) (ws : List ℕ) (sp : Spilled) (w : ℕ)
    → ((v : ℕ) → l ≡ line_of v → c.modified v ≡ true → c.value v ≡ Some (get_or ws (place_of v) 0))
    → spill l (modified_mask c l) ws sp w ≡ spill_line l c sp w

-- a line's mark is what was set last, and all others stay
abbrev pub MarksOneLine : Type 0
MarksOneLine = (l m k : ℕ) (d : Lines) → (with_mark l m d).mark k ≡ (if k == l then m else d.mark k)
