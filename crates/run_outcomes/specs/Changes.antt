-- Memory told by the words that differ from the start.
use Rattle.std.specs.Prelude.{ℕ, ◌≡◌, ◌+◌, ◌<◌, ◌≤◌, List, [], ◌∷◌, Option, Some, None, All}
use Rattle.image_load.specs.Contents.{Contents, started}
use Rattle.image_load.specs.Start.{first_ram}
use Rattle.rv_plain.specs.Buffered.{seen}
use Rattle.tcc_base.specs.Put.{put}

-- the value that a list of words with their values gives a word
unfoldable pub value_in : List (ℕ × ℕ) → ℕ → Option ℕ
value_in [] = λ w. None
value_in (change ∷ changes) = put (value_in changes) change.0 (Some change.1)

-- RAM as it was loaded, but for these words
unfoldable pub changed_ram : Contents → (changes : List (ℕ × ℕ)) → ℕ → ℕ
changed_ram l changes = seen (first_ram (started l)) (value_in changes)

-- each word is one of RAM's
abbrev pub AreInside : (words : ℕ) → (changes : List (ℕ × ℕ)) → Type 0
AreInside words changes = All (λ change. change.0 < words) changes

-- the words of the changes ascend from this one on, and each change differs from this RAM
unfoldable pub AreNormalFrom : (ram : ℕ → ℕ) → (word : ℕ) → (changes : List (ℕ × ℕ)) → Type 0
AreNormalFrom ram word [] = Unit {0}
AreNormalFrom ram word (change ∷ changes) =
    (word ≤ change.0) × (change.1 ≡ ram change.0 → ⊥) × AreNormalFrom ram (change.0 + 1) changes

-- changes as only one list tells them: in ascending order, each word once, none that is as in this RAM
abbrev pub AreNormal : (ram : ℕ → ℕ) → (changes : List (ℕ × ℕ)) → Type 0
AreNormal ram changes = AreNormalFrom ram 0 changes
