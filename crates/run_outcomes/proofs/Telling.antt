-- Results that are told stay told as more are found.
use Rattle.std.proofs.Common.{ℕ, ◌≡◌, ◌<◌, List, ◌++◌, length, slice_index_or, length-append, arith, subst, sym}
use Rattle.std.proofs.lemmas.Grind.{common_steps}
use Rattle.run_outcomes.specs.Explored.{state_at}
use Rattle.run_outcomes.specs.Results.{AreAlike, IsTold}
use Rattle.run_outcomes.specs.declared.outcomes.Tell.{Tell}
use Rattle.run_outcomes.specs.declared.states.Snapshot.{Snapshot}

pub told-grown : (tell : Tell) (states : List Snapshot) (old more : List ℕ) (k : ℕ) → IsTold tell states old k
    → IsTold tell states (old ++ more) k
told-grown tell states old more k h =
    let longer : h.0 < length (old ++ more) = omega (arith, length-append old more, h.1) in
    let same : slice_index_or (old ++ more) h.0 0 ≡ slice_index_or old h.0 0 = grind (arith, common_steps, h.1) in
    (h.0, longer, subst (λ j. AreAlike tell (state_at states j) (state_at states k)) (sym same) h.2)
