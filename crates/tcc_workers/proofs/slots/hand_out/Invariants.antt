use Rattle.std.proofs.Common.{◌≡◌, ◌+◌, ◌<◌, ◌≤◌, ℕ, All, slice_index_or, vec_len, vec_capacity}
use Rattle.tcc_workers.proofs.slots.hand_out.Given as goal

abbrev pub invariant-loop-worker : goal.invariant-loop-worker
invariant-loop-worker g l =
    (l.ticket.parts + l.worker ≡ l.fn.ticket.parts) × (l.ticket.moved ≡ l.fn.ticket.moved)
    × (vec_len l.slots ≡ l.worker) × (l.threads ≤ vec_capacity l.slots)
    × ((k : ℕ) (d : _) → k < l.worker → (slice_index_or l.slots.items k d).worker ≡ k + 1) × All (λ s. s.ticket.moved ≡ 0) l.slots.items
