-- A list of rows before and from the first one with a word.
use Rattle.std.proofs.Common.{◌≡◌, ℕ, Bool, true, false, cond, List, [], ◌∷◌, ◌++◌, map, refl, ap, ◌∙◌}
use Rattle.count_rows.specs.Rows.{Rows, all_rows, rows_of}
use Rattle.checkpoint_text.specs.Directories.{are_same}
use Rattle.row_text.specs.Rows.{Row}

abbrev pub before : (word : List ℕ) → List Row → List Row
before word [] = []
before word (r ∷ rs) = cond (are_same word r.word) [] (r ∷ before word rs)

abbrev pub from : (word : List ℕ) → List Row → List Row
from word [] = []
from word (r ∷ rs) = cond (are_same word r.word) (r ∷ rs) (from word rs)

-- none of the rows has the word
abbrev pub has_none : (word : List ℕ) → List Row → Bool
has_none word [] = true
has_none word (r ∷ rs) = cond (are_same word r.word) false (has_none word rs)

pub before-none : (word : List ℕ) (xs ys : List Row) → has_none word xs ≡ true → before word (xs ++ ys) ≡ xs ++ before word ys
before-none word [] ys none = refl
before-none word (x ∷ xs) ys none = go (are_same word x.word) none (before-none word xs ys)
  where
    go : (b : Bool) → cond b false (has_none word xs) ≡ true
        → (has_none word xs ≡ true → before word (xs ++ ys) ≡ xs ++ before word ys)
        → cond b [] (x ∷ before word (xs ++ ys)) ≡ x ∷ (xs ++ before word ys)
    go true none later = absurd (cc)
    go false none later = ap (λ rs. x ∷ rs) (later none)

pub from-none : (word : List ℕ) (xs ys : List Row) → has_none word xs ≡ true → from word (xs ++ ys) ≡ from word ys
from-none word [] ys none = refl
from-none word (x ∷ xs) ys none = go (are_same word x.word) none (from-none word xs ys)
  where
    go : (b : Bool) → cond b false (has_none word xs) ≡ true → (has_none word xs ≡ true → from word (xs ++ ys) ≡ from word ys)
        → cond b (x ∷ (xs ++ ys)) (from word (xs ++ ys)) ≡ from word ys
    go true none later = absurd (cc)
    go false none later = later none

-- ---- tables of counts

none-append : (word : List ℕ) (xs ys : List Row) → has_none word xs ≡ true → has_none word ys ≡ true → has_none word (xs ++ ys) ≡ true
none-append word [] ys of_x of_y = of_y
none-append word (x ∷ xs) ys of_x of_y = go (are_same word x.word) of_x (λ none. none-append word xs ys none of_y)
  where
    go : (b : Bool) → cond b false (has_none word xs) ≡ true → (has_none word xs ≡ true → has_none word (xs ++ ys) ≡ true)
        → cond b false (has_none word (xs ++ ys)) ≡ true
    go true none later = absurd (cc)
    go false none later = later none

none-rows : (word : List ℕ) (t : Rows) → are_same word t.word ≡ false → has_none word (rows_of t) ≡ true
unfolding rows_of
none-rows word t other = go t.numbers
  where
    go : (rows : List (List ℕ)) → has_none word (map (λ ns. record { word = t.word; numbers = ns }) rows) ≡ true
    go [] = refl
    go (row ∷ rows) = ap (λ b. cond b false (has_none word (map (λ ns. record { word = t.word; numbers = ns }) rows))) other ∙ go rows

-- none of the tables has the word
abbrev pub are_others : (word : List ℕ) → List Rows → Bool
are_others word [] = true
are_others word (t ∷ ts) = cond (are_same word t.word) false (are_others word ts)

pub none-tables : (word : List ℕ) (ts : List Rows) → are_others word ts ≡ true → has_none word (all_rows ts) ≡ true
unfolding all_rows
none-tables word [] others = refl
none-tables word (t ∷ ts) others = go (are_same word t.word) refl others (none-tables word ts)
  where
    go : (b : Bool) → are_same word t.word ≡ b → cond b false (are_others word ts) ≡ true
        → (are_others word ts ≡ true → has_none word (all_rows ts) ≡ true) → has_none word (rows_of t ++ all_rows ts) ≡ true
    go true same others later = absurd (cc)
    go false other others later = none-append word (rows_of t) (all_rows ts) (none-rows word t other) (later others)
