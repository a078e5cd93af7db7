-- What holds of every element of a list, by its number.
use Rattle.std.proofs.Common.{◌≡◌, ℕ, zero, suc, ◌<◌, Bool, true, false, cond, List, [], ◌∷◌, ◌++◌, map, Some, refl, subst, arith}
use Rattle.std.specs.Prelude.{slice_get}
use Rattle.std.specs.List.{filter, flat_map}
use Rattle.rules_maps.specs.Words.{those}
use Rattle.rules_tcc.specs.Seen.{numbers}

abbrev pub Every : {A : Type 0} → (A → Type 0) → List A → Type 0
Every {A} P xs = (k : ℕ) (x : A) → slice_get xs k ≡ Some x → P x

pub every-none : {A : Type 0} (P : A → Type 0) → Every P []
every-none P k x e = absurd (cc)

pub every-cons : {A : Type 0} (P : A → Type 0) (y : A) (ys : List A) → P y → Every P ys → Every P (y ∷ ys)
every-cons P y ys p h zero x e = let same : y ≡ x = cc in subst P same p
every-cons P y ys p h (suc k) x e = h k x e

every-tail : {A : Type 0} (P : A → Type 0) (y : A) (ys : List A) → Every P (y ∷ ys) → Every P ys
every-tail P y ys h k x e = h (suc k) x e

pub every-append : {A : Type 0} (P : A → Type 0) (xs ys : List A) → Every P xs → Every P ys → Every P (xs ++ ys)
every-append P [] ys g h = h
every-append P (x ∷ xs) ys g h = every-cons P x (xs ++ ys) (g 0 x refl) (every-append P xs ys (every-tail P x xs g) h)

pub every-map : {A B : Type 0} (P : B → Type 0) (f : A → B) (xs : List A) → Every (λ x. P (f x)) xs → Every P (map f xs)
every-map P f [] h = every-none P
every-map P f (x ∷ xs) h = every-cons P (f x) (map f xs) (h 0 x refl) (every-map P f xs (every-tail (λ y. P (f y)) x xs h))

pub every-flat : {A B : Type 0} (P : B → Type 0) (f : A → List B) (xs : List A) → Every (λ x. Every P (f x)) xs → Every P (flat_map f xs)
every-flat P f [] h = every-none P
every-flat P f (x ∷ xs) h =
    every-append P (f x) (flat_map f xs) (h 0 x refl) (every-flat P f xs (every-tail (λ y. Every P (f y)) x xs h))

pub every-filter : {A : Type 0} (P : A → Type 0) (p : A → Bool) (xs : List A) → Every P xs → Every (λ x. (p x ≡ true) × P x) (filter p xs)
every-filter P p [] h = every-none (λ x. (p x ≡ true) × P x)
every-filter P p (y ∷ ys) h = by (p y) refl (every-filter P p ys (every-tail P y ys h))
  where
    by : (b : Bool) → p y ≡ b → Every (λ x. (p x ≡ true) × P x) (filter p ys)
        → Every (λ x. (p x ≡ true) × P x) (cond b (y ∷ filter p ys) (filter p ys))
    by true q g = every-cons (λ x. (p x ≡ true) × P x) y (filter p ys) (q, h 0 y refl) g
    by false q g = g

every-less : (n : ℕ) (xs : List ℕ) → Every (λ x. x < n) xs → Every (λ x. x < suc n) xs
every-less n xs h k x e = omega (arith, h k x e)

pub every-number : (n : ℕ) → Every (λ x. x < n) (numbers n)
unfolding those
every-number zero = every-none (λ x. x < 0)
every-number (suc n) = every-append (λ x. x < suc n) (numbers n) (n ∷ []) (every-less n (numbers n) (every-number n))
    (every-cons (λ x. x < suc n) n [] (omega arith) (every-none (λ x. x < suc n)))
