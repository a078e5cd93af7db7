-- Tables, row by row.
use Rattle.std.proofs.Common.{ℕ, ◌≡◌, ◌<◌, ◌≤◌, ◌+◌, List, [], ◌∷◌, ◌++◌, codes, drop, length}
use Rattle.std.proofs.Common.{get_or, map, arith, refl, sym, suc, true, ap, ◌∙◌, append_assoc}
use Rattle.std.specs.List.{flat_map}
use Rattle.std.proofs.lemmas.Grind.{common_steps}
use Rattle.std.proofs.lemmas.List.{append-nil, drop_more}
use Rattle.std.proofs.lemmas.List.Concat.{flat_map-append}
use Rattle.base_lemmas.proofs.Lemmas.{flat-last}
use Rattle.rules_maps.specs.Words.{those}
use Rattle.rules_tcc.specs.Seen.{numbers}
use Rattle.row_text.specs.Rows.{number_text, row_text, rows_text}
use Rattle.checkpoint_text.specs.Tables.{Table, all, each, numbered, table_rows, tables_rows}
use Rattle.checkpoint_text.specs.Written.{numbered_text, table_text}

-- one more thing of a list is written
pub numbered-more : {A : Type 0} (w : List ℕ) (rows : ℕ → A → List (List ℕ)) (xs : List A) (i : ℕ) (d x : A) (text new whole : List ℕ)
    → i < length xs → x ≡ get_or xs i d → text ++ numbered_text w rows i (drop i xs) ≡ whole → new ≡ text ++ table_text w (rows i x)
    → new ++ numbered_text w rows (i + 1) (drop (i + 1) xs) ≡ whole
unfolding numbered_text
numbered-more w rows xs i d x text new whole l here before e = grind (arith, common_steps, drop_more)

-- one that has one row
pub each-more : {A : Type 0} (w : List ℕ) (numbers : A → List ℕ) (xs : List A) (i : ℕ) (d x : A) (row text new whole : List ℕ)
    → i < length xs → x ≡ get_or xs i d → row ≡ numbers x → text ++ numbered_text w (each numbers) i (drop i xs) ≡ whole
    → new ≡ text ++ row_text (record { word = w; numbers = i ∷ row })
    → new ++ numbered_text w (each numbers) (i + 1) (drop (i + 1) xs) ≡ whole
unfolding table_text
each-more w numbers xs i d x row text new whole l here same before e =
    numbered-more w (each numbers) xs i d x text new whole l here before
    (e ∙ ap (λ r. text ++ row_text (record { word = w; numbers = i ∷ r })) same ∙ ap (λ r. text ++ r) (sym (append-nil _)))

-- one that has a row for each entry of a list
pub all-more : {A B : Type 0} (w : List ℕ) (entries : A → List B) (numbers : B → List ℕ) (xs : List A) (i : ℕ) (d x : A) (ys : List B)
    (text new whole : List ℕ) → i < length xs → x ≡ get_or xs i d → ys ≡ entries x
    → text ++ numbered_text w (all entries numbers) i (drop i xs) ≡ whole
    → new ≡ text ++ table_text w (map (λ y. i ∷ numbers y) ys)
    → new ++ numbered_text w (all entries numbers) (i + 1) (drop (i + 1) xs) ≡ whole
all-more w entries numbers xs i d x ys text new whole l here same before e =
    numbered-more w (all entries numbers) xs i d x text new whole l here before
    (e ∙ ap (λ zs. text ++ table_text w (map (λ y. i ∷ numbers y) zs)) same)

-- all are
pub numbered-end : {A : Type 0} (w : List ℕ) (rows : ℕ → A → List (List ℕ)) (xs : List A) (i : ℕ) (text whole : List ℕ)
    → length xs ≤ i → text ++ numbered_text w rows i (drop i xs) ≡ whole → text ≡ whole
unfolding numbered_text
numbered-end w rows xs i text whole l e = grind (arith, common_steps)

-- one more entry of a list is written, behind the number of whose it is
pub entries-more : {A : Type 0} (w : List ℕ) (numbers : A → List ℕ) (k : ℕ) (xs : List A) (i : ℕ) (d x : A) (text new whole : List ℕ)
    → i < length xs → x ≡ get_or xs i d → text ++ table_text w (map (λ y. k ∷ numbers y) (drop i xs)) ≡ whole
    → new ≡ text ++ row_text (record { word = w; numbers = k ∷ numbers x })
    → new ++ table_text w (map (λ y. k ∷ numbers y) (drop (i + 1) xs)) ≡ whole
unfolding table_text
entries-more w numbers k xs i d x text new whole l here before e = grind (arith, common_steps, drop_more)

-- all are
pub entries-end : {A : Type 0} (w : List ℕ) (row : A → List ℕ) (xs : List A) (i : ℕ) (text whole : List ℕ)
    → length xs ≤ i → text ++ table_text w (map row (drop i xs)) ≡ whole → text ≡ whole
unfolding table_text
entries-end w row xs i text whole l e = grind (arith, common_steps)

-- ---- all rows of a table at once

pub rows-append : (w : List ℕ) (xs ys : List (List ℕ)) → table_text w (xs ++ ys) ≡ table_text w xs ++ table_text w ys
unfolding table_text
rows-append w [] ys = refl
rows-append w (x ∷ xs) ys =
    ap (λ r. row_text (record { word = w; numbers = x }) ++ r) (rows-append w xs ys)
    ∙ sym (append_assoc (row_text (record { word = w; numbers = x })) (table_text w xs) (table_text w ys))

numbered-rows : {A : Type 0} (w : List ℕ) (rows : ℕ → A → List (List ℕ)) (k : ℕ) (xs : List A)
    → table_text w (numbered rows k xs) ≡ numbered_text w rows k xs
unfolding table_text numbered numbered_text
numbered-rows w rows k [] = refl
numbered-rows w rows k (x ∷ xs) =
    rows-append w (rows k x) (numbered rows (k + 1) xs) ∙ ap (λ r. table_text w (rows k x) ++ r) (numbered-rows w rows (k + 1) xs)

-- a table before others
with-table : (w : List ℕ) (rows : List (List ℕ)) (ts : List Table)
    → rows_text (tables_rows (record { word = w; rows = rows } ∷ ts)) ≡ table_text w rows ++ rows_text (tables_rows ts)
unfolding rows_text table_rows table_text tables_rows
with-table w [] ts = refl
with-table w (r ∷ rows) ts =
    ap (λ t. row_text (record { word = w; numbers = r }) ++ t) (with-table w rows ts)
    ∙ sym (append_assoc (row_text (record { word = w; numbers = r })) (table_text w rows) (rows_text (tables_rows ts)))

-- the first of some tables is written, by its rows
pub rows-written : (w : List ℕ) (rows : List (List ℕ)) (ts : List Table) (text new : List ℕ) → new ≡ text ++ table_text w rows
    → new ++ rows_text (tables_rows ts) ≡ text ++ rows_text (tables_rows (record { word = w; rows = rows } ∷ ts))
rows-written w rows ts text new e =
    ap (λ t. t ++ rows_text (tables_rows ts)) e ∙ append_assoc text (table_text w rows) (rows_text (tables_rows ts))
    ∙ ap (λ r. text ++ r) (sym (with-table w rows ts))

-- one that has one row
pub row-written : (w numbers : List ℕ) (ts : List Table) (text new : List ℕ)
    → new ≡ text ++ row_text (record { word = w; numbers = numbers })
    → new ++ rows_text (tables_rows ts) ≡ text ++ rows_text (tables_rows (record { word = w; rows = numbers ∷ [] } ∷ ts))
unfolding table_text
row-written w numbers ts text new e = rows-written w (numbers ∷ []) ts text new (e ∙ ap (λ r. text ++ r) (sym (append-nil _)))

-- one that has rows of numbered things
pub table-written : {A : Type 0} (w : List ℕ) (rows : ℕ → A → List (List ℕ)) (xs : List A) (ts : List Table) (text new : List ℕ)
    → new ≡ text ++ numbered_text w rows 0 xs
    → new ++ rows_text (tables_rows ts) ≡ text ++ rows_text (tables_rows (record { word = w; rows = numbered rows 0 xs } ∷ ts))
table-written w rows xs ts text new e =
    rows-written w (numbered rows 0 xs) ts text new (e ∙ ap (λ r. text ++ r) (sym (numbered-rows w rows 0 xs)))

-- all of them are
pub tables-end : (text : List ℕ) → text ≡ text ++ rows_text (tables_rows [])
unfolding rows_text tables_rows
tables-end text = sym (append-nil text)

-- the text of tables, and of others behind them
pub tables-append : (ts us : List Table) → rows_text (tables_rows (ts ++ us)) ≡ rows_text (tables_rows ts) ++ rows_text (tables_rows us)
unfolding rows_text tables_rows
tables-append ts us =
    ap (flat_map row_text) (flat_map-append table_rows ts us) ∙ flat_map-append row_text (flat_map table_rows ts) (flat_map table_rows us)

-- the first of two parts of a text is written
pub part-written : (ts us : List Table) (text new : List ℕ) → new ≡ text ++ rows_text (tables_rows ts)
    → new ++ rows_text (tables_rows us) ≡ text ++ rows_text (tables_rows (ts ++ us))
part-written ts us text new e =
    ap (λ t. t ++ rows_text (tables_rows us)) e ∙ append_assoc text (rows_text (tables_rows ts)) (rows_text (tables_rows us))
    ∙ ap (λ r. text ++ r) (sym (tables-append ts us))

-- ---- rows of numbers from 0 on

-- those of no number are
pub lines-start : (w : List ℕ) (row : ℕ → List (List ℕ)) (text : List ℕ) → text ≡ text ++ table_text w (flat_map row (numbers 0))
unfolding table_text those
lines-start w row text = sym (append-nil text)

-- those of the next number are written
pub lines-more : (w : List ℕ) (row : ℕ → List (List ℕ)) (n : ℕ) (text new whole : List ℕ)
    → text ≡ whole ++ table_text w (flat_map row (numbers n)) → new ≡ text ++ table_text w (row n)
    → new ≡ whole ++ table_text w (flat_map row (numbers (n + 1)))
lines-more w row n text new whole before e =
    let next : suc n ≡ n + 1 = omega arith in
    e ∙ ap (λ t. t ++ table_text w (row n)) before ∙ append_assoc whole (table_text w (flat_map row (numbers n))) (table_text w (row n))
    ∙ ap (λ t. whole ++ t) (sym (rows-append w (flat_map row (numbers n)) (row n)))
    ∙ ap (λ rows. whole ++ table_text w rows) (sym (flat-last row (λ k. true) n))
    ∙ ap (λ m. whole ++ table_text w (flat_map row (numbers m))) next

-- ---- rows that end in many numbers

-- a row's word, its first numbers, the others and its end are the row
pub long-row : (w front back text begun filled new : List ℕ) → begun ≡ text ++ (w ++ flat_map number_text front)
    → filled ≡ begun ++ flat_map number_text back → new ≡ filled ++ codes "\n"
    → new ≡ text ++ row_text (record { word = w; numbers = front ++ back })
unfolding row_text
long-row w front back text begun filled new b f e = grind (arith, common_steps)
