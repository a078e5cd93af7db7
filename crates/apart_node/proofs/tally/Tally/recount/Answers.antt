-- What hangs is counted anew, and the rest is counted.
use Rattle.std.proofs.Common.{length, refl, sym, ◌∙◌, arith}
use Rattle.std.proofs.lemmas.Option.{slice_get_read, slice_get_within}
use Rattle.apart_node.proofs.Picking.Counts.{sum-none}
use Rattle.apart_node.proofs.Picking.Tallied.{counted-open, recount-next, recount-open}
use Rattle.apart_node.proofs.tally.Tally.recount.Goals as goal
use Rattle.apart_node.proofs.tally.Tally.recount.Goals.{then-get-ne0, else-get-ne0}

pub returns-then-total-eq0-clause-ready : goal.returns-then-total-eq0-clause-ready
returns-then-total-eq0-clause-ready c = λ k p e.
    rw (← c.self.view_is)
    (counted-open c.args.member.now c.args.last c.args.ports.now (record { ready = c.self.inside.ready; hanging = c.self.inside.hanging })
    (rw (← c.self.view_is) at c.requires.tallied) c.requires.ports c.requires.kind c.requires.early k p e
    (sum-none c.self.inside.hanging (sym c.total.ensures ∙ c.if-total-eq0.true) k))

pub ready_count-requires-clause-settings : goal.ready_count-requires-clause-settings
ready_count-requires-clause-settings c =
    let p = c.index-ports-seat.result in
    let ports = c.args.ports.now in
    let at = slice_get_read ports (length ports) c.loop-seat.seat p refl c.loop-seat-test.true c.index-ports-seat.is in
    (c.requires.ports.each c.loop-seat.seat p at).in_settings

pub ready_count-requires-clause-own : goal.ready_count-requires-clause-own
ready_count-requires-clause-own c =
    let p = c.index-ports-seat.result in
    let ports = c.args.ports.now in
    let at = slice_get_read ports (length ports) c.loop-seat.seat p refl c.loop-seat-test.true c.index-ports-seat.is in
    (c.requires.ports.each c.loop-seat.seat p at).in_own

pub loop-seat-init : goal.loop-seat-init
loop-seat-init c = (rw (← c.self.view_is) at c.requires.tallied, λ k p l e. absurd (omega (arith, l)))

pub loop-seat-preserved : goal.loop-seat-preserved
loop-seat-preserved c =
    let m = c.args.member.now in
    let p = c.index-ports-seat.result in
    let ports = c.args.ports.now in
    let at = slice_get_read ports (length ports) c.loop-seat.seat p refl c.loop-seat-test.true c.index-ports-seat.is in
    elim c.if-get-ne0.branch [
      | then-get-ne0 w ↦
          rw (w.self-inside-is, w.set.ensures)
          (recount-next m c.args.last c.args.ports.now
          (record { ready = c.loop-seat.self-inside.ready; hanging = c.loop-seat.self-inside.hanging }) c.loop-seat.seat
          w.ready_count.result p c.loop-seat-test.true at (λ z. w.if-get-ne0.true (c.get.ensures ∙ z)) w.ready_count.ensures
          c.loop-seat.invariant)
      | else-get-ne0 w ↦
          rw w.self-inside-is
          (recount-open m c.args.last c.args.ports.now
          (record { ready = c.loop-seat.self-inside.ready; hanging = c.loop-seat.self-inside.hanging }) c.loop-seat.seat
          c.requires.ports c.requires.kind c.requires.early (sym c.get.ensures ∙ w.if-get-ne0.false) c.loop-seat.invariant)
    ]

pub returns-clause-ready : goal.returns-clause-ready
returns-clause-ready c = λ k p e.
    let l = slice_get_within c.args.ports.now k p e in
    c.loop-seat.invariant.1 k p (omega (arith, l, c.loop-seat-test.false)) e
