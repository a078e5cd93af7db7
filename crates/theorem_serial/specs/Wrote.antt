-- Which words the commits so far stored, read from the list of commits.
use Rattle.std.specs.Prelude.{ℕ, max, Bool, false, cond, ◌==◌, ◌&&◌, ◌||◌, List, [], ◌∷◌}
use Rattle.tcc_base.specs.declared.access.Commit.{Commit as Noted}
use Rattle.tcc_base.specs.declared.access.Stored.{Stored}
use Rattle.rules_maps.specs.Words.{any_word, word_at}
use Rattle.rules_maps.specs.Masks.{mask_of}
use Rattle.theorem_serial.specs.Uses.{stores_word}

-- the stores name a word of the line
unfoldable pub names_line : (base : ℕ) → List Stored → (line : ℕ) → Bool
names_line base ss l = any_word (stores_word base ss) l

-- the core's commit with this TID stored the word
unfoldable pub wrote : (base : ℕ) → List Noted → (core tid word : ℕ) → Bool
wrote base [] c t w = false
wrote base (x ∷ xs) c t w = ((x.core.0 == c) && ((x.tid.0 == t) && stores_word base x.stores w)) || wrote base xs c t w

-- and so the line
unfoldable pub wrote_line : (base : ℕ) → List Noted → (core tid line : ℕ) → Bool
wrote_line base cs c t l = any_word (wrote base cs c t) l

-- the mask of the words that it stored in the line
unfoldable pub wrote_mask : (base : ℕ) → List Noted → (core tid line : ℕ) → ℕ
wrote_mask base cs c t l = mask_of (λ k. wrote base cs c t (word_at l k))

-- the greatest TID of the commits that pass, or 0 where none does
unfoldable pub last_of : (Noted → Bool) → List Noted → ℕ
last_of p [] = 0
last_of p (x ∷ xs) = max (cond (p x) x.tid.0 0) (last_of p xs)
