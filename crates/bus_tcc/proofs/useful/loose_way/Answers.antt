-- One way after another.
use Rattle.std.proofs.Common.{sym, ◌∙◌, arith}
use Rattle.bus_tcc.proofs.Numbers.{no-more, none-passed, pass-none, pass-one, this-one}
use Rattle.bus_tcc.proofs.useful.loose_way.Goals as goal
use Rattle.bus_tcc.proofs.useful.loose_way.Goals.{then-can_evict+else-left-eq0, else-can_evict}

pub loop-way-init : goal.loop-way-init
loop-way-init c = none-passed _ c.args.k

pub returns-then-left-eq0 : goal.returns-then-left-eq0
returns-then-left-eq0 c =
    this-one _ c.loop-way.way _ c.args.k c.loop-way.left c.loop-way.invariant (omega (arith, c.if-left-eq0.true))
    (sym c.if-can_evict.true ∙ c.can_evict.ensures) (omega (arith, c.loop-way-test.true, c.requires.all))

pub loop-way-preserved : goal.loop-way-preserved
loop-way-preserved c = elim c.if-can_evict.branch [
  | then-can_evict+else-left-eq0 w ↦ pass-one _ c.loop-way.way c.args.k c.loop-way.left c.if-can_evict.left c.loop-way.invariant
      (sym w.if-can_evict.true ∙ c.can_evict.ensures) (omega (arith, w.if-left-eq0.false)) w.left-is
  | else-can_evict w ↦ pass-none _ c.loop-way.way c.args.k c.loop-way.left c.if-can_evict.left c.loop-way.invariant
      (sym w.if-can_evict.false ∙ c.can_evict.ensures) w.left-is
]

pub returns : goal.returns
returns c =
    no-more _ c.loop-way.way _ c.args.k c.loop-way.left c.loop-way.invariant
    (omega (arith, c.loop-way-test.false, c.loop-way.auto.way-end, c.requires.all))
