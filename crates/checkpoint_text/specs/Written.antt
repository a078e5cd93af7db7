-- The text of one table, row by row.
use Rattle.std.specs.Prelude.{ℕ, ◌+◌, List, [], ◌∷◌, ◌++◌}
use Rattle.row_text.specs.Rows.{row_text}

-- the text of rows that begin with this word
unfoldable pub table_text : (word : List ℕ) → (rows : List (List ℕ)) → List ℕ
table_text w [] = []
table_text w (r ∷ rs) = row_text (record { word = w; numbers = r }) ++ table_text w rs

-- the text of the rows of things that are numbered from k on
unfoldable pub numbered_text : {A : Type 0} → (word : List ℕ) → (ℕ → A → List (List ℕ)) → (k : ℕ) → List A → List ℕ
numbered_text w rows k [] = []
numbered_text w rows k (x ∷ xs) = table_text w (rows k x) ++ numbered_text w rows (k + 1) xs
