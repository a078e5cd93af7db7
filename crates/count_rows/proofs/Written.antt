-- Rows, one behind another.
use Rattle.std.proofs.Common.{ℕ, ◌≡◌, ◌<◌, ◌≤◌, ◌+◌, List, [], ◌∷◌, ◌++◌, Some, drop, length, slice_get}
use Rattle.std.proofs.Common.{get_or, map, arith, sym, ap, ◌∙◌, append_assoc, append-nil}
use Rattle.std.proofs.lemmas.Grind.{common_steps, flat_map-append}
use Rattle.std.proofs.lemmas.List.{drop_more}
use Rattle.std.proofs.lemmas.Option.{get_or_from_slice_get, slice_get_within}
use Rattle.row_text.specs.Rows.{row_text, rows_text}
use Rattle.count_rows.specs.Rows.{Rows, all_rows, numbered, rows_of}

-- the text of rows with this word
abbrev pub text_of : (word : List ℕ) → (numbers : List (List ℕ)) → List ℕ
text_of word numbers = rows_text (rows_of (record { word = word; numbers = numbers }))

-- one more thing of a list is written
pub numbered-more : {A : Type 0} (w : List ℕ) (f : A → List ℕ) (xs : List A) (i : ℕ) (d x : A) (text new whole : List ℕ)
    → i < length xs → x ≡ get_or xs i d → text ++ text_of w (numbered f i (drop i xs)) ≡ whole
    → new ≡ text ++ row_text (record { word = w; numbers = i ∷ f x })
    → new ++ text_of w (numbered f (i + 1) (drop (i + 1) xs)) ≡ whole
unfolding rows_text rows_of numbered
numbered-more w f xs i d x text new whole l here before e = grind (arith, common_steps, drop_more)

-- the same of one that was found
pub numbered-found : {A : Type 0} (w : List ℕ) (f : A → List ℕ) (xs : List A) (i : ℕ) (x : A) (text new whole : List ℕ)
    → Some x ≡ slice_get xs i → text ++ text_of w (numbered f i (drop i xs)) ≡ whole
    → new ≡ text ++ row_text (record { word = w; numbers = i ∷ f x })
    → new ++ text_of w (numbered f (i + 1) (drop (i + 1) xs)) ≡ whole
numbered-found w f xs i x text new whole found before e =
    numbered-more w f xs i x x text new whole (slice_get_within xs i x (sym found))
    (sym (get_or_from_slice_get xs i x x (sym found))) before e

-- all are
pub numbered-end : {A : Type 0} (w : List ℕ) (f : A → List ℕ) (xs : List A) (i : ℕ) (text whole : List ℕ)
    → length xs ≤ i → text ++ text_of w (numbered f i (drop i xs)) ≡ whole → text ≡ whole
unfolding rows_text rows_of numbered
numbered-end w f xs i text whole l e = grind (arith, common_steps)

-- one more entry is written
pub entry-more : {A : Type 0} (w : List ℕ) (f : A → List ℕ) (x : A) (now rest : List A) (text new whole : List ℕ) → now ≡ x ∷ rest
    → text ++ text_of w (map f now) ≡ whole → new ≡ text ++ row_text (record { word = w; numbers = f x })
    → new ++ text_of w (map f rest) ≡ whole
unfolding rows_text rows_of
entry-more w f x now rest text new whole here before e =
    ap (λ t. t ++ text_of w (map f rest)) e
    ∙ append_assoc text (row_text (record { word = w; numbers = f x })) (text_of w (map f rest))
    ∙ ap (λ xs. text ++ text_of w (map f xs)) (sym here) ∙ before

-- all are
pub entries-end : {A : Type 0} (w : List ℕ) (f : A → List ℕ) (now : List A) (text whole : List ℕ) → now ≡ []
    → text ++ text_of w (map f now) ≡ whole → text ≡ whole
unfolding rows_text rows_of
entries-end w f now text whole none e = sym (append-nil text) ∙ ap (λ xs. text ++ text_of w (map f xs)) (sym none) ∙ e

-- ---- tables, one behind another

-- the first of some is written
pub rows-written : (t : Rows) (ts : List Rows) (text new : List ℕ) → new ≡ text ++ rows_text (rows_of t)
    → new ++ rows_text (all_rows ts) ≡ text ++ rows_text (all_rows (t ∷ ts))
unfolding rows_text all_rows
rows-written t ts text new e =
    ap (λ s. s ++ rows_text (all_rows ts)) e ∙ append_assoc text (rows_text (rows_of t)) (rows_text (all_rows ts))
    ∙ ap (λ s. text ++ s) (sym (flat_map-append row_text (rows_of t) (all_rows ts)))

-- all of them are
pub rows-end : (text : List ℕ) → text ≡ text ++ rows_text (all_rows [])
unfolding rows_text all_rows
rows-end text = sym (append-nil text)

-- a table of one row
pub row-alone : (w numbers text new : List ℕ) → new ≡ text ++ row_text (record { word = w; numbers = numbers })
    → new ≡ text ++ text_of w (numbers ∷ [])
unfolding rows_text rows_of
row-alone w numbers text new e = e ∙ ap (λ t. text ++ t) (sym (append-nil (row_text (record { word = w; numbers = numbers }))))
