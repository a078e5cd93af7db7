-- A text that grows by a piece for each element of a list, and the numbers below a bound.
use Rattle.std.proofs.Common.{◌≡◌, ℕ, zero, suc, ◌+◌, Bool, true, false, cond, List, [], ◌∷◌, ◌++◌}
use Rattle.std.proofs.Common.{refl, ap, sym, ◌∙◌}
use Rattle.std.specs.List.{flat_map}
use Rattle.std.proofs.lemmas.List.Concat.{flat_map-append}
use Rattle.rules_maps.specs.Words.{those}
use Rattle.rules_tcc.specs.Seen.{numbers}

-- what has no piece may be left out
pub only-those : {A : Type 0} (f : ℕ → List A) (p : ℕ → Bool) → ((k : ℕ) → p k ≡ false → f k ≡ []) → (n : ℕ)
    → flat_map f (those p n) ≡ flat_map f (numbers n)
unfolding those
only-those f p none zero = refl
only-those f p none (suc n) =
    flat_map-append f (those p n) (cond (p n) (n ∷ []) []) ∙ (λ i. only-those f p none n i ++ last (p n) refl i)
    ∙ sym (flat_map-append f (numbers n) (n ∷ []))
  where
    last : (b : Bool) → p n ≡ b → flat_map f (cond b (n ∷ []) []) ≡ flat_map f (n ∷ [])
    last true e = refl
    last false e = sym (ap (λ ys. ys ++ []) (none n e))
