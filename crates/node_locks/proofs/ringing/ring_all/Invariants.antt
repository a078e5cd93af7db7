use Rattle.std.specs.Prelude.{◌≡◌}
use Rattle.node_locks.proofs.ringing.ring_all.Given as goal

-- all are as they were
abbrev pub invariant-loop-i : goal.invariant-loop-i
invariant-loop-i l = (l.these ≡ l.fn.these) × (l.those ≡ l.fn.those)
