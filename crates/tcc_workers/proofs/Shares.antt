-- What many tickets count together.
use Rattle.std.proofs.Common.{◌≡◌, ℕ, ◌*◌, ◌/◌, ◌≤◌, List, ◌++◌, length, take, All, ap, sym, ◌∙◌, subst, arith}
use Rattle.std.specs.List.{sum_by}
use Rattle.std.proofs.Math.Nat.{mul-div-le}
use Rattle.std.proofs.Math.Seq.{take-append_seam}
use Rattle.std.proofs.lemmas.List.Sums.{sum_by-le}

-- where each of n counts the n-th part of all at most, they count all at most
pub sum-of_shares : {X : Type 0} (f : X → ℕ) (all n m : ℕ) (xs rest : List X) → m ≡ n → length xs ≡ n
    → All (λ x. f x ≤ all / n) xs → sum_by f (take m (xs ++ rest)) ≤ all
sum-of_shares f all n m xs rest same len each =
    let cut : take m (xs ++ rest) ≡ xs = ap (λ k. take k (xs ++ rest)) (same ∙ sym len) ∙ take-append_seam xs rest in
    let sum : sum_by f xs ≤ n * (all / n) = subst (λ k. sum_by f xs ≤ k * (all / n)) len (sum_by-le f (all / n) xs each) in
    let fits : n * (all / n) ≤ all = mul-div-le all n in
    subst (λ ys. sum_by f ys ≤ all) (sym cut) (omega (arith, sum, fits))
