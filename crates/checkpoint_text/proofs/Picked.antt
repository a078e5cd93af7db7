-- The rows of a table that begin with one number, and what equal tables say of the things that are numbered.
use Rattle.std.proofs.Common.{◌≡◌, ℕ, zero, suc, ◌+◌, ◌<◌, ◌==◌, Bool, true, false, cond, List, [], ◌∷◌, ◌++◌, map, Option, Some, None}
use Rattle.std.proofs.Common.{option_map, slice_get, get_or, unwrap_or, refl, sym, ap, ◌∙◌, arith, eq-eqb, ne_eqb, append-nil}
use Rattle.std.proofs.lemmas.Option.{unwrap_or-slice_get}
use Rattle.checkpoint_text.specs.Tables.{all, each, numbered}

-- what follows the number j in the rows that begin with it
abbrev pub behind : (j : ℕ) → List (List ℕ) → List (List ℕ)
behind j [] = []
behind j ([] ∷ rows) = behind j rows
behind j ((n ∷ row) ∷ rows) = cond (n == j) (row ∷ behind j rows) (behind j rows)

pub behind-append : (j : ℕ) (xs ys : List (List ℕ)) → behind j (xs ++ ys) ≡ behind j xs ++ behind j ys
behind-append j [] ys = refl
behind-append j ([] ∷ xs) ys = behind-append j xs ys
behind-append j ((n ∷ row) ∷ xs) ys = go (n == j) (behind-append j xs ys)
  where
    go : (b : Bool) → behind j (xs ++ ys) ≡ behind j xs ++ behind j ys
        → cond b (row ∷ behind j (xs ++ ys)) (behind j (xs ++ ys)) ≡ cond b (row ∷ behind j xs) (behind j xs) ++ behind j ys
    go true same = ap (λ rows. row ∷ rows) same
    go false same = same

pub nothing-either : (b : Bool) (none : List (List ℕ)) → none ≡ [] → none ≡ cond b none []
nothing-either true none e = refl
nothing-either false none e = e

-- a thing's rows begin with its number alone, and these are the rest of them
abbrev pub AreBehind : {A : Type 0} → (ℕ → A → List (List ℕ)) → (A → List (List ℕ)) → Type 0
AreBehind {A} rows items = (j k : ℕ) (x : A) → behind j (rows k x) ≡ cond (k == j) (items x) []

abbrev pub items_of : {A : Type 0} → (A → List (List ℕ)) → Option A → List (List ℕ)
items_of items None = []
items_of items (Some x) = items x

-- no row of later things begins with an earlier number
behind-later : {A : Type 0} (rows : ℕ → A → List (List ℕ)) (items : A → List (List ℕ)) → AreBehind rows items → (xs : List A) (j k : ℕ)
    → j < k → behind j (numbered rows k xs) ≡ []
unfolding numbered
behind-later rows items are [] j k lt = refl
behind-later rows items are (x ∷ xs) j k lt =
    behind-append j (rows k x) (numbered rows (k + 1) xs)
    ∙ ap (λ ys. ys ++ behind j (numbered rows (k + 1) xs)) (are j k x ∙ ap (λ b. cond b (items x) []) (ne_eqb k j (λ e. omega arith)))
    ∙ behind-later rows items are xs j (k + 1) (omega arith)

-- the rows of the thing with that number
pub behind-numbered : {A : Type 0} (rows : ℕ → A → List (List ℕ)) (items : A → List (List ℕ)) → AreBehind rows items
    → (xs : List A) (i j k : ℕ) → j ≡ k + i → behind j (numbered rows k xs) ≡ items_of items (slice_get xs i)
unfolding numbered
behind-numbered rows items are [] i j k e = refl
behind-numbered rows items are (x ∷ xs) zero j k e =
    behind-append j (rows k x) (numbered rows (k + 1) xs)
    ∙ ap (λ ys. ys ++ behind j (numbered rows (k + 1) xs)) (are j k x ∙ ap (λ b. cond b (items x) []) (eq-eqb k j (omega arith)))
    ∙ ap (λ ys. items x ++ ys) (behind-later rows items are xs j (k + 1) (omega arith)) ∙ append-nil (items x)
behind-numbered rows items are (x ∷ xs) (suc i) j k e =
    behind-append j (rows k x) (numbered rows (k + 1) xs)
    ∙ ap (λ ys. ys ++ behind j (numbered rows (k + 1) xs)) (are j k x ∙ ap (λ b. cond b (items x) []) (ne_eqb k j (λ same. omega arith)))
    ∙ behind-numbered rows items are xs i j (k + 1) (omega arith)

-- equal tables have the same rows for each number
numbered-same : {A : Type 0} (rows : ℕ → A → List (List ℕ)) (items : A → List (List ℕ)) → AreBehind rows items → (xs ys : List A)
    → numbered rows 0 xs ≡ numbered rows 0 ys → (i : ℕ) → items_of items (slice_get xs i) ≡ items_of items (slice_get ys i)
numbered-same rows items are xs ys e i =
    sym (behind-numbered rows items are xs i i 0 (omega arith)) ∙ ap (behind i) e ∙ behind-numbered rows items are ys i i 0 (omega arith)

-- a row for each thing
each-behind : {A : Type 0} (f : A → List ℕ) → AreBehind (each f) (λ x. f x ∷ [])
each-behind f j k x = refl

pub each-same : {A : Type 0} (f : A → List ℕ) (xs ys : List A) → numbered (each f) 0 xs ≡ numbered (each f) 0 ys
    → (i : ℕ) → option_map f (slice_get xs i) ≡ option_map f (slice_get ys i)
each-same {A = A} f xs ys e i = go (slice_get xs i) (slice_get ys i) (numbered-same (each f) (λ x. f x ∷ []) (each-behind f) xs ys e i)
  where
    go : (x y : Option A) → items_of (λ z. f z ∷ []) x ≡ items_of (λ z. f z ∷ []) y → option_map f x ≡ option_map f y
    go None None same = refl
    go None (Some y) same = cc
    go (Some x) None same = cc
    go (Some x) (Some y) same = cc

-- a row for each entry of a list that each thing has
all-behind : {A B : Type 0} (entries : A → List B) (f : B → List ℕ) → AreBehind (all entries f) (λ x. map f (entries x))
all-behind {B = B} entries f j k x = go (entries x)
  where
    go : (ys : List B) → behind j (map (λ y. k ∷ f y) ys) ≡ cond (k == j) (map f ys) []
    go [] = nothing-either (k == j) [] refl
    go (y ∷ ys) = by (k == j) (go ys)
      where
        by : (b : Bool) → behind j (map (λ z. k ∷ f z) ys) ≡ cond b (map f ys) []
            → cond b (f y ∷ behind j (map (λ z. k ∷ f z) ys)) (behind j (map (λ z. k ∷ f z) ys)) ≡ cond b (f y ∷ map f ys) []
        by true same = ap (λ rows. f y ∷ rows) same
        by false same = same

pub all-same : {A B : Type 0} (entries : A → List B) (f : B → List ℕ) (xs ys : List A)
    → numbered (all entries f) 0 xs ≡ numbered (all entries f) 0 ys → (i : ℕ)
    → items_of (λ x. map f (entries x)) (slice_get xs i) ≡ items_of (λ x. map f (entries x)) (slice_get ys i)
all-same entries f xs ys e i = numbered-same (all entries f) (λ x. map f (entries x)) (all-behind entries f) xs ys e i

-- a row for each place that isn't empty
abbrev pub filled_row : {A : Type 0} → (A → List ℕ) → ℕ → Option A → List (List ℕ)
filled_row f k None = []
filled_row f k (Some x) = (k ∷ f x) ∷ []

abbrev filled_items : {A : Type 0} → (A → List ℕ) → Option A → List (List ℕ)
filled_items f None = []
filled_items f (Some x) = f x ∷ []

filled-behind : {A : Type 0} (f : A → List ℕ) → AreBehind (filled_row f) (filled_items f)
filled-behind f j k None = nothing-either (k == j) [] refl
filled-behind f j k (Some x) = refl

-- equal tables have the same at each place, also where one list is longer by places that are empty
pub filled-same : {A : Type 0} (f : A → List ℕ) (xs ys : List (Option A)) → numbered (filled_row f) 0 xs ≡ numbered (filled_row f) 0 ys
    → (i : ℕ) → option_map f (get_or xs i None) ≡ option_map f (get_or ys i None)
filled-same {A = A} f xs ys e i =
    ap (option_map f) (sym (unwrap_or-slice_get xs i None))
    ∙ go (slice_get xs i) (slice_get ys i) (numbered-same (filled_row f) (filled_items f) (filled-behind f) xs ys e i)
    ∙ ap (option_map f) (unwrap_or-slice_get ys i None)
  where
    one : (x y : Option A) → filled_items f x ≡ filled_items f y → option_map f x ≡ option_map f y
    one None None same = refl
    one None (Some y) same = cc
    one (Some x) None same = cc
    one (Some x) (Some y) same = cc

    go : (x y : Option (Option A)) → items_of (filled_items f) x ≡ items_of (filled_items f) y
        → option_map f (unwrap_or x None) ≡ option_map f (unwrap_or y None)
    go None None same = refl
    go None (Some y) same = one None y same
    go (Some x) None same = one x None same
    go (Some x) (Some y) same = one x y same
