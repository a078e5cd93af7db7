use Rattle.std.proofs.Common.{ℕ, ◌≡◌, ◌≤◌, false, slice_index_or}
use Rattle.run_outcomes.specs.HowMany.{HowMany, IsFirst}
use Rattle.run_outcomes.proofs.stuck.tell_unmarked.Given as goal

abbrev pub invariant-loop-k : goal.invariant-loop-k
invariant-loop-k l =
    HowMany (λ (j : ℕ). slice_index_or l.marked j false ≡ false) l.k l.count
    × IsFirst (λ (j : ℕ). slice_index_or l.marked j false ≡ false) l.k l.first
    × (l.count ≤ l.k)
