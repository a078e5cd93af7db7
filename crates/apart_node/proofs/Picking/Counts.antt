-- Counts by place, and what filters count.
use Rattle.std.proofs.Common.{◌≡◌, ◌≢◌, ℕ, zero, suc, ◌+◌, ◌≤◌, Bool, true, false, cond, List, [], ◌∷◌, ◌++◌, length, take, sum, Some}
use Rattle.std.proofs.Common.{if◌then◌else◌, refl, ap, sym, ◌∙◌, arith, length-append}
use Rattle.std.specs.Prelude.{slice_get, slice_index, slice_set}
use Rattle.std.specs.List.{filter, flat_map, remove}
use Rattle.std.proofs.lemmas.List.Sums.{sum_by-cons}
use Rattle.std.proofs.lemmas.Option.{same_Some}

-- ---- filters

-- one more behind the others
pub filter-push : {A : Type 0} (f : A → Bool) (xs : List A) (x : A)
    → length (filter f (xs ++ x ∷ [])) ≡ length (filter f xs) + cond (f x) 1 0
filter-push f [] x = one (f x)
  where
    one : (b : Bool) → length (cond b (x ∷ []) []) ≡ 0 + cond b 1 0
    one true = refl
    one false = refl
filter-push f (y ∷ xs) x = one (f y) (filter-push f xs x)
  where
    one : (b : Bool) → length (filter f (xs ++ x ∷ [])) ≡ length (filter f xs) + cond (f x) 1 0
        → length (cond b (y ∷ filter f (xs ++ x ∷ [])) (filter f (xs ++ x ∷ []))) ≡ length (cond b (y ∷ filter f xs) (filter f xs))
        + cond (f x) 1 0
    one true h = omega (arith, h)
    one false h = h

-- one is taken out
pub filter-remove : {A : Type 0} (f : A → Bool) (xs : List A) (i : ℕ) (x : A) → slice_get xs i ≡ Some x
    → length (filter f (remove xs i)) + cond (f x) 1 0 ≡ length (filter f xs)
filter-remove f [] i x h = absurd (cc)
filter-remove f (y ∷ xs) zero x h = one (f y) (f x) (ap f (same_Some y x h))
  where
    one : (b c : Bool) → b ≡ c → length (filter f xs) + cond c 1 0 ≡ length (cond b (y ∷ filter f xs) (filter f xs))
    one true true e = omega arith
    one false false e = omega arith
    one true false e = absurd (cc)
    one false true e = absurd (cc)
filter-remove f (y ∷ xs) (suc i) x h = one (f y) (filter-remove f xs i x h)
  where
    one : (b : Bool) → length (filter f (remove xs i)) + cond (f x) 1 0 ≡ length (filter f xs)
        → length (cond b (y ∷ filter f (remove xs i)) (filter f (remove xs i))) + cond (f x) 1 0
        ≡ length (cond b (y ∷ filter f xs) (filter f xs))
    one true g = omega (arith, g)
    one false g = g

pub remove-few : {A : Type 0} (xs : List A) (i : ℕ) → length (remove xs i) ≤ length xs
remove-few [] zero = omega arith
remove-few [] (suc i) = omega arith
remove-few (x ∷ xs) zero = omega arith
remove-few (x ∷ xs) (suc i) = let l = remove-few xs i in omega (arith, l)

-- nothing passes
pub filter-none : {A : Type 0} (f : A → Bool) (xs : List A) → length (filter f xs) ≡ 0 → (k : ℕ) (x : A) → slice_get xs k ≡ Some x
    → f x ≡ false
filter-none f [] h k x e = absurd (cc)
filter-none f (y ∷ xs) h zero x e = ap f (sym (same_Some y x e)) ∙ one (f y) h
  where
    one : (b : Bool) → length (cond b (y ∷ filter f xs) (filter f xs)) ≡ 0 → b ≡ false
    one true g = absurd (omega (arith, g))
    one false g = refl
filter-none f (y ∷ xs) h (suc k) x e = filter-none f xs (one (f y) h) k x e
  where
    one : (b : Bool) → length (cond b (y ∷ filter f xs) (filter f xs)) ≡ 0 → length (filter f xs) ≡ 0
    one true g = absurd (omega (arith, g))
    one false g = g

-- all pass
pub filter-all : {A : Type 0} (f : A → Bool) (xs : List A) → ((k : ℕ) (x : A) → slice_get xs k ≡ Some x → f x ≡ true)
    → length (filter f xs) ≡ length xs
filter-all f [] h = refl
filter-all f (y ∷ xs) h = let t = h 0 y refl in rw t (ap suc (filter-all f xs (λ k x e. h (suc k) x e)))

-- ---- a count of those that pass

pub one-at-most : (b : Bool) → (if b then 1 else 0) ≤ 1
one-at-most true = omega arith
one-at-most false = omega arith

abbrev one_if : Bool → ℕ
one_if b = if b then 1 else 0

as-cond : (b : Bool) → one_if b ≡ cond b 1 0
as-cond true = refl
as-cond false = refl

pub counted-push : {A : Type 0} (f : A → Bool) (xs : List A) (x : A) (n one : ℕ) → n ≡ length (filter f xs)
    → one ≡ (if f x then 1 else 0) → n + one ≡ length (filter f (xs ++ x ∷ []))
counted-push f xs x n one h e =
    let more = filter-push f xs x in
    let same = e ∙ as-cond (f x) in
    omega (arith, h, more, same)

pub counted-remove : {A : Type 0} (f : A → Bool) (xs : List A) (i : ℕ) (x : A) (n one : ℕ) → slice_get xs i ≡ Some x
    → n ≡ length (filter f xs) → one ≡ (if f x then 1 else 0) → n ≡ length (filter f (remove xs i)) + one
counted-remove f xs i x n one g h e =
    let less = filter-remove f xs i x g in
    let same = e ∙ as-cond (f x) in
    omega (arith, h, less, same)

-- ---- counts

pub read-set_other : (ns : List ℕ) (i j n : ℕ) → j ≢ i → slice_index (slice_set ns i n) j ≡ slice_index ns j
read-set_other [] i j n o = refl
read-set_other (m ∷ ns) zero zero n o = absurd (o refl)
read-set_other (m ∷ ns) zero (suc j) n o = refl
read-set_other (m ∷ ns) (suc i) zero n o = refl
read-set_other (m ∷ ns) (suc i) (suc j) n o = read-set_other ns i j n (λ e. o (ap suc e))

pub sum-none : (ns : List ℕ) → sum ns ≡ 0 → (k : ℕ) → slice_index ns k ≡ 0
sum-none [] h k = refl
sum-none (n ∷ ns) h zero = (let all = sum_by-cons (λ x. x) n ns in let none : n ≡ 0 = omega (arith, all, h) in none)
sum-none (n ∷ ns) h (suc k) = (let all = sum_by-cons (λ x. x) n ns in sum-none ns (omega (arith, all, h)) k)

-- where the counts are those of lists, sums are lengths of these lists together
pub sum-flat : {A B : Type 0} (f : A → List B) (xs : List A) (ns : List ℕ) → length ns ≡ length xs
    → ((k : ℕ) (x : A) → slice_get xs k ≡ Some x → slice_index ns k ≡ length (f x)) → (i : ℕ)
    → sum (take i ns) ≡ length (flat_map f (take i xs))
sum-flat f [] [] l h zero = refl
sum-flat f [] [] l h (suc i) = refl
sum-flat f [] (n ∷ ns) l h i = absurd (omega (arith, l))
sum-flat f (x ∷ xs) [] l h i = absurd (omega (arith, l))
sum-flat f (x ∷ xs) (n ∷ ns) l h zero = refl
sum-flat f (x ∷ xs) (n ∷ ns) l h (suc i) =
    let one : n ≡ length (f x) = h 0 x refl in
    let rest = sum-flat f xs ns (omega (arith, l)) (λ k y e. h (suc k) y e) i in
    let both = length-append (f x) (flat_map f (take i xs)) in
    let split = sum_by-cons (λ x. x) n (take i ns) in
    let all : sum (n ∷ take i ns) ≡ length (f x ++ flat_map f (take i xs)) = omega (arith, one, rest, both, split) in
    all
