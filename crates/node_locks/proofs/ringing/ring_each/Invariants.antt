use Rattle.std.specs.Prelude.{◌≡◌}
use Rattle.node_locks.proofs.ringing.ring_each.Given as goal

-- all are as they were
abbrev pub invariant-loop-j : goal.invariant-loop-j
invariant-loop-j l = (l.node ≡ l.fn.node) × (l.others ≡ l.fn.others)
