-- What holds of each element of a list, element by element.
use Rattle.std.proofs.Common.{ℕ, ◌≡◌, ◌<◌, ◌≤◌, ◌+◌, ◌∙◌, List, Some, arith, get_or, inl, inr, length, slice_get, subst}
use Rattle.std.proofs.lemmas.Bool.{cases_lt}
use Rattle.std.proofs.lemmas.Option.{get_or_from_slice_get, slice_get_within}

-- of the first k of them
abbrev pub HoldsBelow : {A : Type 0} → (A → Type 0) → List A → (k : ℕ) → Type 0
HoldsBelow {A} P xs k = (j : ℕ) (y : A) → j < k → slice_get xs j ≡ Some y → P y

pub none-below : {A : Type 0} (P : A → Type 0) (xs : List A) → HoldsBelow P xs 0
none-below P xs j y l at = absurd (omega (arith, l))

pub one-more : {A : Type 0} (P : A → Type 0) (xs : List A) (k : ℕ) (d x : A) → x ≡ get_or xs k d → P x → HoldsBelow P xs k
    → HoldsBelow P xs (k + 1)
one-more P xs k d x here holds before j y l at = elim (cases_lt j k) [
  | inl under ↦ before j y under at
  | inr over ↦
      let e : j ≡ k = omega (arith, l, over) in
      subst P (here ∙ get_or_from_slice_get xs k y d (subst (λ i. slice_get xs i ≡ Some y) e at)) holds
]

pub all-hold : {A : Type 0} (P : A → Type 0) (xs : List A) (k : ℕ) → length xs ≤ k → HoldsBelow P xs k → (j : ℕ) (y : A)
    → slice_get xs j ≡ Some y → P y
all-hold P xs k l below j y at = below j y (omega (arith, l, slice_get_within xs j y at)) at
