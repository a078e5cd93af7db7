use Rattle.std.proofs.Common.{ℕ, ◌≡◌, false, length, slice_index_or}
use Rattle.run_outcomes.proofs.stuck.no_marks.Given as goal

abbrev pub invariant-loop-k : goal.invariant-loop-k
invariant-loop-k l = (length l.marked ≡ l.k) × ((j : ℕ) → slice_index_or l.marked j false ≡ false)
