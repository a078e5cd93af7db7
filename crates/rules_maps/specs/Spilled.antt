-- The words that an attempt stored and that no frame has as modified, since theirs was emptied or their line had such a word already,
-- as a map from the word to its value. The line may have a frame again, for words that are loaded.
use Rattle.std.specs.Prelude.{ℕ, ◌≤◌, ◌≡◌, Bool, List, map, get_or, Option, Some, None, is_some, unwrap_or, if◌then◌else◌, ◌==◌, ◌&&◌}
use Rattle.rules_maps.specs.Words.{those, eight, any_word, line_of, place_of, word_at}
use Rattle.rules_maps.specs.Masks.{mask_of, hit}
use Rattle.rules_maps.specs.Nodes.{Tagged}
use Rattle.rules_maps.specs.Cache.{Cache}

abbrev pub Spilled : Type 0
Spilled = ℕ → Option ℕ

unfoldable pub none_spilled : Spilled
none_spilled = λ w. None

-- the masked words of the line have these values
unfoldable pub spill : ℕ → ℕ → List ℕ → Spilled → Spilled
spill l m ws sp = λ w. if hit l m w then Some (get_or ws (place_of w) 0) else sp w

-- a frame is emptied: the modified words of its line have the values that they had there
unfoldable pub spill_line : ℕ → Cache → Spilled → Spilled
spill_line l c sp = λ w. if l == line_of w && c.modified w then Some (unwrap_or (c.value w) 0) else sp w

-- a word of the line is kept
unfoldable pub holds : Spilled → ℕ → Bool
holds sp l = any_word (λ w. is_some (sp w)) l

unfoldable pub spilled_mask : Spilled → ℕ → ℕ
spilled_mask sp l = mask_of (λ k. is_some (sp (word_at l k)))

unfoldable pub spilled_words : Spilled → ℕ → List ℕ
spilled_words sp l = eight (λ k. unwrap_or (sp (word_at l k)) 0)

-- the words of one line, with the tag of their commit
unfoldable pub spilled_line : ℕ → Spilled → ℕ → Tagged
spilled_line t sp l = record { line = l; mask = spilled_mask sp l; words = spilled_words sp l; tag = t }

-- no word is kept of any line from n on
abbrev pub IsBelow : ℕ → Spilled → Type 0
IsBelow n sp = (w : ℕ) → n ≤ line_of w → sp w ≡ None

-- what is kept, line by line, rising, where no line from n on is kept
unfoldable pub drained : ℕ → ℕ → Spilled → List Tagged
drained n t sp = map (spilled_line t sp) (those (holds sp) n)
