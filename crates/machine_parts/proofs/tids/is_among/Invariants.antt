-- None so far is this one.
use Rattle.std.proofs.Common.{◌≡◌, ◌<◌, ℕ}
use Rattle.std.specs.Prelude.{slice_index_or}
use Rattle.machine_parts.proofs.tids.is_among.Given as goal

abbrev pub invariant-loop-own : goal.invariant-loop-own
invariant-loop-own l = (j : ℕ) → j < l.own-index → slice_index_or l.fn.held j 0 ≡ l.fn.tid → ⊥
