-- Texts that grow: the lines of a list from a place on, when one more stands at its end, what is written for a
-- range of numbers, and by two calls.
use Rattle.std.proofs.Common.{◌≡◌, ℕ, zero, suc, ◌+◌, List, [], ◌∷◌, ◌++◌, drop, length, nat_le, if◌then◌else◌}
use Rattle.std.proofs.Common.{arith}
use Rattle.std.proofs.lemmas.Grind.{common_steps}
use Rattle.std.specs.Prelude.{OnOk, Result, Ok, Err}
use Rattle.schedule_text.specs.Grammar.{joined}

joined-more : (ts : List (List ℕ)) (t : List ℕ) → joined (ts ++ t ∷ []) ≡ joined ts ++ t
joined-more [] t = grind (arith, common_steps)
joined-more (s ∷ ts) t = grind (arith, common_steps, joined-more ts t)

pub joined-from : (n : ℕ) (ts : List (List ℕ)) (t : List ℕ)
    → joined (drop n (ts ++ t ∷ [])) ≡ joined (drop n ts) ++ (if nat_le n (length ts) then t else [])
joined-from zero ts t = grind (arith, common_steps, joined-more ts t)
joined-from (suc n) [] t = grind (arith, common_steps)
joined-from (suc n) (s ∷ ts) t = grind (arith, common_steps, joined-from n ts t)

-- what is written by two calls, where the first has succeeded
pub parts-joined : {A E : Type 0} (r : Result A E) (old now new first second : List ℕ) → now ≡ old ++ first → OnOk r (new ≡ now ++ second)
    → OnOk r (new ≡ old ++ (first ++ second))
parts-joined (Ok x) old now new first second a b = grind (arith, common_steps)
parts-joined (Err e) old now new first second a b = tt
