-- Copies of the words of a line, as those of the rules.
use Rattle.std.specs.Prelude.{ℕ, ◌≡◌, ◌<◌, List, get_or}
use Rattle.rules_tcc.specs.Seen.{Copy, newest}
use Rattle.net_core.specs.declared.copies.Copied.{Copied}

abbrev pub plain_copy : Copied → Copy
plain_copy c = record { tag = c.tag.0; value = c.value }

-- that of the word at a place of the line
abbrev pub nth_copy : List Copied → ℕ → Copy
nth_copy cs k = plain_copy (get_or cs k (record { tag = record { 0 = 0 }; value = 0 }))

-- at each place stands the newest of the copy that stood there and of these copies of the word
abbrev pub AreNewest : (old new : List Copied) → (ℕ → List Copy) → Type 0
AreNewest old new copies = (k : ℕ) → k < 8 → nth_copy new k ≡ newest (nth_copy old k) (copies k)
