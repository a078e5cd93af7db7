-- None so far has this one.
use Rattle.std.proofs.Common.{◌≢◌, ◌<◌, ℕ}
use Rattle.machine_parts.proofs.Noted.{At}
use Rattle.machine_parts.proofs.tids.has_committed.Given as goal

abbrev pub invariant-loop-commit : goal.invariant-loop-commit
invariant-loop-commit l = (j : ℕ) → j < l.commit-index → At l.fn.commits (λ c. c.tid.0 ≢ l.fn.tid.0) j
