-- One more element of a list, and lists that are written as they were.
use Rattle.std.proofs.Common.{◌≡◌, ℕ, zero, suc, ◌+◌, ◌<◌, List, [], ◌∷◌, ◌++◌, length, Some, refl, ap, sym, ◌∙◌, subst, arith, inl, inr}
use Rattle.std.specs.Prelude.{slice_get, slice_set}
use Rattle.std.proofs.lemmas.Bool.{cases_eq}
use Rattle.std.proofs.lemmas.Option.{slice_get_within}

-- what holds of the elements before one, and of that one, holds of one more
pub one-more : {A : Type 0} (P : A → Type 0) (xs : List A) (i : ℕ) (x : A) → slice_get xs i ≡ Some x → P x
    → ((k : ℕ) (y : A) → k < i → slice_get xs k ≡ Some y → P y) → (k : ℕ) (y : A) → k < i + 1 → slice_get xs k ≡ Some y → P y
one-more P xs i x got p so k y h e = elim (cases_eq k i) [
  | inl q ↦ (let same : Some x ≡ Some y = sym got ∙ rw q at e in
      let is : x ≡ y = cc in
      subst P is p)
  | inr n ↦ so k y (omega (arith, n)) e
]

-- what holds of all elements before the list's end holds of all
pub all-of : {A : Type 0} (P : A → Type 0) (xs : List A) (n : ℕ) → length xs ≡ n → ((k : ℕ) (y : A) → k < n → slice_get xs k ≡ Some y → P y)
    → (k : ℕ) (y : A) → slice_get xs k ≡ Some y → P y
all-of P xs n c so k y e = so k y (subst (λ m. k < m) c (slice_get_within xs k y e)) e

pub set-same : {A : Type 0} (xs : List A) (i : ℕ) (x : A) → slice_get xs i ≡ Some x → slice_set xs i x ≡ xs
set-same [] i x e = refl
set-same (y ∷ xs) zero x e =
    let is : y ≡ x = cc in
    ap (λ z. z ∷ xs) (sym is)
set-same (y ∷ xs) (suc i) x e = ap (λ zs. y ∷ zs) (set-same xs i x e)

pub get-back : {A : Type 0} (xs ys : List A) (i : ℕ) → slice_get (xs ++ ys) (length xs + i) ≡ slice_get ys i
get-back [] ys i =
    let e : 0 + i ≡ i = omega arith in
    rw e refl
get-back (x ∷ xs) ys i =
    let e : suc (length xs) + i ≡ suc (length xs + i) = omega arith in
    rw e (get-back xs ys i)

-- what holds of all elements and of one more holds of the list with that behind it
pub all-push : {A : Type 0} (P : A → Type 0) (xs : List A) (x : A) → P x → ((k : ℕ) (y : A) → slice_get xs k ≡ Some y → P y)
    → (k : ℕ) (y : A) → slice_get (xs ++ x ∷ []) k ≡ Some y → P y
all-push P [] x p all zero y e =
    let is : x ≡ y = cc in
    subst P is p
all-push P [] x p all (suc k) y e = absurd (cc)
all-push P (z ∷ xs) x p all zero y e = all zero y e
all-push P (z ∷ xs) x p all (suc k) y e = all-push P xs x p (λ j. all (suc j)) k y e

pub all-none : {A : Type 0} (P : A → Type 0) (xs : List A) → length xs ≡ 0 → (k : ℕ) (y : A) → slice_get xs k ≡ Some y → P y
all-none P [] h k y e = absurd (cc)
all-none P (x ∷ xs) h k y e = absurd (omega (arith, h))
