-- What is told of the first so many cores, and of one core more.
use Rattle.std.proofs.Common.{◌≡◌, ℕ, ◌+◌, List, [], ◌∷◌, ◌++◌, map, ap, sym, ◌∙◌, arith}
use Rattle.std.specs.List.{range_with_len}
use Rattle.std.proofs.lemmas.List.FromFn.{map-range_with_len_more}

-- one core more
pub one-more : {A : Type 0} (f : ℕ → A) (n : ℕ) (xs : List A) (x : A) → xs ≡ map f (range_with_len 0 n) → x ≡ f n
    → xs ++ x ∷ [] ≡ map f (range_with_len 0 (n + 1))
one-more f n xs x are is =
    ap (λ ys. ys ++ x ∷ []) are ∙ ap (λ y. map f (range_with_len 0 n) ++ y ∷ []) is ∙ sym (map-range_with_len_more f 0 n n (omega arith))
