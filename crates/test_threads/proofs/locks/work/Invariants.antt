use Rattle.std.specs.Prelude.{ℕ, ◌≡◌, ◌≤◌}
use Rattle.test_threads.proofs.locks.work.Given as goal

-- a turn counts one at most
abbrev pub invariant-loop-k : goal.invariant-loop-k
invariant-loop-k g l = (l.ticket.moved ≤ l.k) × (l.ticket.parts ≡ l.fn.ticket.parts)
