-- A checkpoint is a text of tables. The rows of a table begin with its word, and no other rows do.
use Rattle.std.specs.Prelude.{ℕ, ◌+◌, List, [], ◌∷◌, ◌++◌, map}
use Rattle.std.specs.List.{flat_map}
use Rattle.row_text.specs.Rows.{Row}

pub record Table : Type 0 where
  pub word : List ℕ
  pub rows : List (List ℕ)

unfoldable pub table_rows : Table → List Row
table_rows t = map (λ numbers. record { word = t.word; numbers = numbers }) t.rows

-- the rows of tables, one behind another
unfoldable pub tables_rows : List Table → List Row
tables_rows ts = flat_map table_rows ts

-- the rows of things that are numbered from k on
unfoldable pub numbered : {A : Type 0} → (ℕ → A → List (List ℕ)) → (k : ℕ) → List A → List (List ℕ)
numbered rows k [] = []
numbered rows k (x ∷ xs) = rows k x ++ numbered rows (k + 1) xs

-- a row for each of them, with its number in front
abbrev pub each : {A : Type 0} → (A → List ℕ) → ℕ → A → List (List ℕ)
each numbers k x = (k ∷ numbers x) ∷ []

-- a row for each entry of a list that such a thing has
abbrev pub all : {A B : Type 0} → (A → List B) → (B → List ℕ) → ℕ → A → List (List ℕ)
all entries numbers k x = map (λ y. k ∷ numbers y) (entries x)
