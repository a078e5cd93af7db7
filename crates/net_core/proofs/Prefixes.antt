-- The first elements of a list, one by one.
use Rattle.std.proofs.Common.{◌≡◌, ℕ, zero, suc, ◌+◌, List, [], ◌∷◌, ◌++◌, take, Some, ap, ◌∙◌, arith}
use Rattle.std.specs.Prelude.{slice_get}

one-longer : {A : Type 0} (xs : List A) (k : ℕ) (x : A) → slice_get xs k ≡ Some x → take (suc k) xs ≡ take k xs ++ x ∷ []
one-longer [] k x e = absurd (cc)
one-longer (y ∷ ys) zero x e = let same : y ≡ x = cc in ap (λ z. z ∷ []) same
one-longer (y ∷ ys) (suc k) x e = ap (λ zs. y ∷ zs) (one-longer ys k x e)

pub took-more : {A : Type 0} (xs : List A) (k : ℕ) (x : A) → slice_get xs k ≡ Some x → take (k + 1) xs ≡ take k xs ++ x ∷ []
took-more xs k x e = let s : k + 1 ≡ suc k = omega arith in ap (λ n. take n xs) s ∙ one-longer xs k x e
