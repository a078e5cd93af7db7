-- The ports so far are counted.
use Rattle.apart_node.proofs.Picking.Tallied.{Recounted}
use Rattle.apart_node.proofs.tally.Tally.recount.Given as goal

abbrev pub invariant-loop-seat : goal.invariant-loop-seat
invariant-loop-seat l =
    Recounted l.member l.last l.ports (record { ready = l.self-inside.ready; hanging = l.self-inside.hanging }) l.seat
