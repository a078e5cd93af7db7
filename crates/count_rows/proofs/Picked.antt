-- Texts with the same tables have the same numbers in each, which is known by its word.
use Rattle.std.proofs.Common.{◌≡◌, ℕ, ◌==◌, ◌&&◌, Bool, true, false, cond, List, [], ◌∷◌, ◌++◌, map, All, refl, sym, ap, ◌∙◌}
use Rattle.std.proofs.lemmas.List.Elements.{All-append, All-cons, All-nil}
use Rattle.row_text.proofs.Lemmas.{all-word-bytes, is-word, one-text_of_words}
use Rattle.row_text.specs.Rows.{HasWord, IsWord, Row, rows_text}
use Rattle.count_rows.specs.Rows.{Rows, all_rows, rows_of}

abbrev is_same : List ℕ → List ℕ → Bool
is_same [] [] = true
is_same (x ∷ xs) (y ∷ ys) = x == y && is_same xs ys
is_same _ _ = false

-- the numbers of the rows with this word
abbrev picked : (word : List ℕ) → List Row → List (List ℕ)
picked word [] = []
picked word (r ∷ rs) = cond (is_same word r.word) (r.numbers ∷ picked word rs) (picked word rs)

-- the numbers of the tables with this word
abbrev pub numbers_with : (word : List ℕ) → List Rows → List (List ℕ)
numbers_with word [] = []
numbers_with word (t ∷ ts) = cond (is_same word t.word) t.numbers [] ++ numbers_with word ts

picked-rows : (word : List ℕ) (t : Rows) (rest : List Row)
    → picked word (rows_of t ++ rest) ≡ cond (is_same word t.word) t.numbers [] ++ picked word rest
unfolding rows_of
picked-rows word t rest = go t.numbers
  where
    by : (b : Bool) (row : List ℕ) (rows now : List (List ℕ)) → now ≡ cond b rows [] ++ picked word rest
        → cond b (row ∷ now) now ≡ cond b (row ∷ rows) [] ++ picked word rest
    by true row rows now same = ap (λ ns. row ∷ ns) same
    by false row rows now same = same

    none : (b : Bool) → picked word rest ≡ cond b [] [] ++ picked word rest
    none true = refl
    none false = refl

    go : (rows : List (List ℕ)) → picked word (map (λ ns. record { word = t.word; numbers = ns }) rows ++ rest)
        ≡ cond (is_same word t.word) rows [] ++ picked word rest
    go [] = none (is_same word t.word)
    go (row ∷ rows) = by (is_same word t.word) row rows _ (go rows)

picked-tables : (word : List ℕ) (ts : List Rows) → picked word (all_rows ts) ≡ numbers_with word ts
unfolding all_rows
picked-tables word [] = refl
picked-tables word (t ∷ ts) =
    picked-rows word t (all_rows ts) ∙ ap (λ ns. cond (is_same word t.word) t.numbers [] ++ ns) (picked-tables word ts)

-- ---- words

abbrev is_word : List ℕ → Bool
is_word [] = false
is_word (b ∷ bs) = all-word-bytes (b ∷ bs)

-- all tables have words
abbrev pub are_words : List Rows → Bool
are_words [] = true
are_words (t ∷ ts) = is_word t.word && are_words ts

both : (a b : Bool) → (a && b) ≡ true → (a ≡ true) × (b ≡ true)
both true b e = (refl, e)
both false b e = absurd (cc)

word-is : (word : List ℕ) → is_word word ≡ true → IsWord word
word-is [] e = absurd (cc)
word-is (b ∷ bs) e = is-word b bs e

rows-words : (t : Rows) → IsWord t.word → All HasWord (rows_of t)
unfolding rows_of
rows-words t is = go t.numbers
  where
    go : (rows : List (List ℕ)) → All HasWord (map (λ ns. record { word = t.word; numbers = ns }) rows)
    go [] = All-nil HasWord
    go (row ∷ rows) = All-cons HasWord _ _ is (go rows)

pub tables-words : (ts : List Rows) → are_words ts ≡ true → All HasWord (all_rows ts)
unfolding all_rows
tables-words [] e = All-nil HasWord
tables-words (t ∷ ts) e =
    let parts = both (is_word t.word) (are_words ts) e in
    All-append HasWord (rows_of t) (all_rows ts) (rows-words t (word-is t.word parts.0)) (tables-words ts parts.1)

-- one text is of one list of numbers for each word
pub numbers-same : (word : List ℕ) (ts us : List Rows) → are_words ts ≡ true → are_words us ≡ true
    → rows_text (all_rows ts) ≡ rows_text (all_rows us) → numbers_with word ts ≡ numbers_with word us
numbers-same word ts us of_ts of_us e =
    let rows = one-text_of_words (all_rows ts) (all_rows us) (tables-words ts of_ts) (tables-words us of_us) e in
    sym (picked-tables word ts) ∙ ap (picked word) rows ∙ picked-tables word us
