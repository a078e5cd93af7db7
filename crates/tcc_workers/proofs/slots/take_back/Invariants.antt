use Rattle.std.proofs.Common.{◌≡◌, ◌+◌, ◌&&◌, is_ok, vec_len}
use Rattle.std.specs.List.{list_all, sum_by}
use Rattle.tcc_workers.proofs.slots.take_back.Given as goal

abbrev pub invariant-loop-slot : goal.invariant-loop-slot
invariant-loop-slot g l =
    (l.ticket.parts + vec_len l.slots ≡ l.fn.ticket.parts + vec_len l.fn.slots)
    × (l.ticket.moved + sum_by (λ s. s.ticket.moved) l.slots.items ≡ l.fn.ticket.moved + sum_by (λ s. s.ticket.moved) l.fn.slots.items)
    × ((list_all (λ s. is_ok s.met) l.slots.items && is_ok l.met) ≡ list_all (λ s. is_ok s.met) l.fn.slots.items)

abbrev pub decreases-loop-slot : goal.decreases-loop-slot
decreases-loop-slot g l = goal.left-loop-slot g l
