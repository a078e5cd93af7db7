-- Lists that are gone through from front to back, filled with one value, or written back whole.
use Rattle.std.proofs.Common.{◌≡◌, ℕ, suc, ◌+◌, ◌<◌, ◌∙◌, List, [], ◌∷◌, ◌++◌, length, take, drop, get_or, replicate, add-one, ap, sym}
use Rattle.std.proofs.Common.{inl, inr}
use Rattle.std.proofs.lemmas.Bool.{cases_lt}
use Rattle.std.proofs.lemmas.List.{get_or_past, get_or-replicate, length-replicate, take_more}
use Rattle.std.proofs.Math.Seq.{drop-cons}

-- what is left begins with the element at place j
pub drop-left : {A : Type 0} (xs : List A) (j : ℕ) (x : A) → j < length xs → x ≡ get_or xs j x → drop j xs ≡ x ∷ drop (j + 1) xs
drop-left xs j x below is = rw add-one (drop-cons xs j x below ∙ ap (λ y. y ∷ drop (suc j) xs) (sym is))

-- what was gone through ends with it
pub take-more : {A : Type 0} (xs : List A) (j : ℕ) (x : A) → j < length xs → x ≡ get_or xs j x → take (j + 1) xs ≡ take j xs ++ x ∷ []
take-more xs j x below is = take_more xs j x below ∙ ap (λ y. take j xs ++ y ∷ []) (sym is)

pub replicate-default : {A : Type 0} (n k : ℕ) (a : A) → get_or (replicate n a) k a ≡ a
replicate-default n k a =
    elim (cases_lt k n) [
      | inl below ↦ get_or-replicate n k a a below
      | inr above ↦ get_or_past (replicate n a) k a (rw (length-replicate n a) above)
    ]
