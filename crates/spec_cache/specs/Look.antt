-- What a cache answers and hands out, in the words of its maps.
use Rattle.std.specs.Prelude.{ℕ, ◌≡◌, Bool, true, cond, ◌&&◌, get_or, Some, None, is_some}
use Rattle.std.specs.Option.{option_map}
use Rattle.rules_maps.specs.Words.{line_of, place_of, word_at}
use Rattle.rules_maps.specs.Masks.{mask_of}
use Rattle.rules_maps.specs.Cache.{Cache, modified_mask, dirty_mask, dirty_copy}
use Rattle.rules_maps.specs.CacheChange.{marked, stored}
use Rattle.rules_maps.specs.CacheLook.{Look as Answer, Hit as Hits, Miss as Misses, NeedsRoom as WantsRoom, Overflow as Overflows}
use Rattle.rules_maps.specs.Bridge.{tagged_of}
use Rattle.spec_cache.specs.declared.frame.FrameView.{FrameView}
use Rattle.spec_cache.specs.declared.look.Look.{Look}
use Rattle.spec_cache.specs.declared.look.Look.TheVariants.{Hit, Miss, NeedsRoom, Overflow}
use Rattle.spec_cache.specs.declared.look.Evicted.{Evicted}

abbrev pub look_of : Look → Answer
look_of (Hit x) = Hits x
look_of Miss = Misses
look_of (NeedsRoom s) = WantsRoom s
look_of (Overflow s) = Overflows s

-- a load that finds its word marks it read, where that is asked for, unless it is modified
unfoldable pub loaded : ℕ → Bool → Cache → Cache
loaded w mark c = cond (mark && is_some (c.value w)) (marked w c) c

-- the frame of line l
pub record Views (c : Cache) (l : ℕ) (f : FrameView) : Type 0 where
  pub line : f.line.0 ≡ l
  pub valid : f.valid.0 ≡ mask_of (λ k. is_some (c.value (word_at l k)))
  pub words : (w : ℕ) → l ≡ line_of w → is_some (c.value w) ≡ true → c.value w ≡ Some (get_or f.words (place_of w) 0)
  pub read : f.read.0 ≡ mask_of (λ k. c.read (word_at l k))
  pub modified : f.modified.0 ≡ modified_mask c l
  pub dirty : f.dirty.0 ≡ dirty_mask c l
  pub tag : (w : ℕ) → l ≡ line_of w → is_some (c.dirty w) ≡ true → c.dirty w ≡ Some f.tag.0

-- what is handed out of the frame of line l: its modified words, and its dirty ones to be written back
pub record Gives (c : Cache) (l : ℕ) (e : Evicted) : Type 0 where
  pub line : e.line.0 ≡ l
  pub modified : e.modified.0 ≡ modified_mask c l
  pub words : (w : ℕ) → l ≡ line_of w → is_some (c.value w) ≡ true → c.value w ≡ Some (get_or e.words (place_of w) 0)
  pub back : option_map tagged_of e.back ≡ dirty_copy c l

-- a word is stored in a frame that has no dirty word
pub record StoresClean (w x : ℕ) (also : Bool) (old new : Cache) : Type 0 where
  pub held : old.held (line_of w) ≡ true
  pub clean : dirty_copy old (line_of w) ≡ None
  pub maps : new ≡ stored w x also old
