-- A line that ends.
use Rattle.std.proofs.Common.{◌≡◌, ℕ, List, ◌++◌, Result, Ok, Err, ap, append_assoc, ◌∙◌}
use Rattle.std.specs.Prelude.{OnOk, is_ok, if◌then◌else◌}

-- a first part, a second one and an end
pub ended : {T E : Type 0} (r : Result T E) (t0 t1 t2 t3 first second end : List ℕ) → t1 ≡ t0 ++ first → t2 ≡ t1 ++ second
    → t3 ≡ (if is_ok r then t2 ++ end else t2) → OnOk r (t3 ≡ t0 ++ (first ++ second ++ end))
ended (Ok v) t0 t1 t2 t3 first second end h e l =
    l ∙ ap (λ x. x ++ end) (e ∙ ap (λ x. x ++ second) h ∙ append_assoc t0 first second) ∙ append_assoc t0 (first ++ second) end
ended (Err v) t0 t1 t2 t3 first second end h e l = tt
