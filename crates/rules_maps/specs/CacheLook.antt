-- What a cache answers to a load or a store before anything is changed.
use Rattle.std.specs.Prelude.{ℕ, Bool, Option, Some, None, is_some, if◌then◌else◌, ◌&&◌}
use Rattle.rules_maps.specs.Words.{any_word, line_of}
use Rattle.rules_maps.specs.Masks.{hit}
use Rattle.rules_maps.specs.Shape.{Shape, set_of}
use Rattle.rules_maps.specs.Cache.{Cache, free_way, all_marked}

pub data Look : Type 0 where
  Hit : (value : ℕ) → Look
  Miss : Look
  NeedsRoom : (set : ℕ) → Look
  Overflow : (set : ℕ) → Look

-- a line that has a frame, or may have one, is a miss; else its set is full, with or without a way
-- that could be emptied
unfoldable pub look_line : Shape → ℕ → Cache → Look
look_line sh l c =
    if c.held l then Miss
    else if is_some (free_way sh c (set_of sh l)) then Miss
    else if all_marked sh c (set_of sh l) then Overflow (set_of sh l)
    else NeedsRoom (set_of sh l)

unfoldable pub look_value : Option ℕ → Shape → ℕ → Cache → Look
look_value (Some x) sh l c = Hit x
look_value None sh l c = look_line sh l c

unfoldable pub look_load : Shape → ℕ → Cache → Look
look_load sh w c = look_value (c.value w) sh (line_of w) c

-- a whole word may be stored in any frame of its line; a part of a word wants the word, as a load
unfoldable pub look_store : Shape → ℕ → Bool → Cache → Look
look_store sh w whole c =
    if whole then (if c.held (line_of w) then Hit 0 else look_line sh (line_of w) c)
    else look_load sh w c

-- a masked word of the line is marked read
unfoldable pub reads_masked : ℕ → ℕ → Cache → Bool
reads_masked l m c = any_word (λ w. hit l m w && c.read w) l
