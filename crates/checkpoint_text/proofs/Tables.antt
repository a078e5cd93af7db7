-- Texts with the same rows have the same tables, each known by its word.
use Rattle.std.proofs.Common.{◌≡◌, ℕ, ◌==◌, ◌&&◌, Bool, true, false, cond, List, [], ◌∷◌, ◌++◌, map, All, refl, sym, ap}
use Rattle.std.proofs.Common.{◌∙◌, eqb-true}
use Rattle.std.proofs.lemmas.List.Elements.{All-append, All-cons, All-nil}
use Rattle.base_lemmas.proofs.Lemmas.{and-both}
use Rattle.row_text.proofs.Lemmas.{all-word-bytes, is-word}
use Rattle.row_text.specs.Rows.{HasWord, IsWord, Row}
use Rattle.checkpoint_text.specs.Directories.{are_same}
use Rattle.checkpoint_text.specs.Tables.{Table, table_rows, tables_rows}

-- the test of two rows' numbers finds them the same where they are
pub are-same : (xs ys : List ℕ) → are_same xs ys ≡ true → xs ≡ ys
are-same [] [] e = refl
are-same [] (y ∷ ys) e = cc
are-same (x ∷ xs) [] e = cc
are-same (x ∷ xs) (y ∷ ys) e =
    let parts = and-both (x == y) (are_same xs ys) e in
    λ i. eqb-true x y parts.0 i ∷ are-same xs ys parts.1 i

-- ---- rows by their word

-- the numbers of the rows with this word
abbrev numbers_with : (word : List ℕ) → List Row → List (List ℕ)
numbers_with word [] = []
numbers_with word (r ∷ rs) = cond (are_same word r.word) (r.numbers ∷ numbers_with word rs) (numbers_with word rs)

-- the rows of the tables with this word
abbrev pub rows_with : (word : List ℕ) → List Table → List (List ℕ)
rows_with word [] = []
rows_with word (t ∷ ts) = cond (are_same word t.word) t.rows [] ++ rows_with word ts

numbers-table : (word : List ℕ) (t : Table) (rest : List Row)
    → numbers_with word (table_rows t ++ rest) ≡ cond (are_same word t.word) t.rows [] ++ numbers_with word rest
unfolding table_rows
numbers-table word t rest = go t.rows
  where
    by : (b : Bool) (row : List ℕ) (rows now : List (List ℕ)) → now ≡ cond b rows [] ++ numbers_with word rest
        → cond b (row ∷ now) now ≡ cond b (row ∷ rows) [] ++ numbers_with word rest
    by true row rows now same = ap (λ ns. row ∷ ns) same
    by false row rows now same = same

    none : (b : Bool) → numbers_with word rest ≡ cond b [] [] ++ numbers_with word rest
    none true = refl
    none false = refl

    go : (rows : List (List ℕ)) → numbers_with word (map (λ ns. record { word = t.word; numbers = ns }) rows ++ rest)
        ≡ cond (are_same word t.word) rows [] ++ numbers_with word rest
    go [] = none (are_same word t.word)
    go (row ∷ rows) = by (are_same word t.word) row rows _ (go rows)

numbers-tables : (word : List ℕ) (ts : List Table) → numbers_with word (tables_rows ts) ≡ rows_with word ts
unfolding tables_rows
numbers-tables word [] = refl
numbers-tables word (t ∷ ts) =
    numbers-table word t (tables_rows ts) ∙ ap (λ ns. cond (are_same word t.word) t.rows [] ++ ns) (numbers-tables word ts)

pub rows-same : (word : List ℕ) (ts us : List Table) → tables_rows ts ≡ tables_rows us → rows_with word ts ≡ rows_with word us
rows-same word ts us e = sym (numbers-tables word ts) ∙ ap (numbers_with word) e ∙ numbers-tables word us

-- ---- words

abbrev is_word : List ℕ → Bool
is_word [] = false
is_word (b ∷ bs) = all-word-bytes (b ∷ bs)

-- all tables have words
abbrev pub are_words : List Table → Bool
are_words [] = true
are_words (t ∷ ts) = is_word t.word && are_words ts

word-is : (word : List ℕ) → is_word word ≡ true → IsWord word
word-is [] e = absurd (cc)
word-is (b ∷ bs) e = is-word b bs e

table-words : (t : Table) → IsWord t.word → All HasWord (table_rows t)
unfolding table_rows
table-words t is = go t.rows
  where
    go : (rows : List (List ℕ)) → All HasWord (map (λ ns. record { word = t.word; numbers = ns }) rows)
    go [] = All-nil HasWord
    go (row ∷ rows) = All-cons HasWord _ _ is (go rows)

pub tables-words : (ts : List Table) → are_words ts ≡ true → All HasWord (tables_rows ts)
unfolding tables_rows
tables-words [] e = All-nil HasWord
tables-words (t ∷ ts) e =
    let parts = and-both (is_word t.word) (are_words ts) e in
    All-append HasWord (table_rows t) (tables_rows ts) (table-words t (word-is t.word parts.0)) (tables-words ts parts.1)
