-- One way after another.
use Rattle.std.proofs.Common.{true, false, sym, ◌∙◌, arith}
use Rattle.bus_tcc.proofs.Numbers.{count-more, counted-below, none-counted}
use Rattle.bus_tcc.proofs.useful.loose_count.Goals as goal
use Rattle.bus_tcc.proofs.useful.loose_count.Goals.{then-can_evict, else-can_evict}

pub loop-way-init : goal.loop-way-init
loop-way-init c = none-counted _

pub overflow_add-count : goal.overflow_add-count
overflow_add-count c =
    omega (arith, counted-below _ c.loop-way.way c.loop-way.count c.loop-way.invariant, c.loop-way-test.true, c.ranges.ways.fits)

pub loop-way-preserved : goal.loop-way-preserved
loop-way-preserved c = elim c.if-can_evict.branch [
  | then-can_evict w ↦ w.count-is ∙ count-more _ c.loop-way.way true c.loop-way.count c.loop-way.invariant
      (sym w.if-can_evict.true ∙ c.can_evict.ensures)
  | else-can_evict w ↦ w.count-is ∙ count-more _ c.loop-way.way false c.loop-way.count c.loop-way.invariant
      (sym w.if-can_evict.false ∙ c.can_evict.ensures)
]
