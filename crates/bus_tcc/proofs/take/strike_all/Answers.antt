-- All lines are struck.
use Rattle.std.proofs.Common.{◌+◌, refl, sym, subst, ◌∙◌, arith}
use Rattle.core_node.specs.View.{core_of}
use Rattle.bus_tcc.proofs.TakenLines.{Strikes, strikes-all, strikes-first, strikes-next}
use Rattle.bus_tcc.proofs.take.strike_all.Goals as goal

pub loop-line-init : goal.loop-line-init
loop-line-init c = record { so_far = strikes-first c.args.lines.now (core_of c.args.core.now); config = refl; id = refl }

pub loop-line-preserved : goal.loop-line-preserved
loop-line-preserved c = record {
  so_far = subst (Strikes c.args.lines.now (c.loop-line.line-index + 1) (core_of c.args.core.now) (core_of c.strike-hit.new.self))
      (sym c.either-read.ensures)
      (strikes-next c.args.lines.now c.loop-line.line-index _ (core_of c.args.core.now) (core_of c.loop-line.core) (core_of
      c.strike-hit.new.self)
      c.loop-line.read c.strike-hit.result c.loop-line.invariant.so_far c.loop-line-test.true c.strike-hit.ensures.does
      c.strike-hit.ensures.read);
  config = c.strike-hit.ensures.stays.config ∙ c.loop-line.invariant.config;
  id = c.strike-hit.ensures.stays.id ∙ c.loop-line.invariant.id;
}

pub returns : goal.returns
returns c =
    let all = strikes-all c.args.lines.now c.loop-line.line-index (core_of c.args.core.now) (core_of c.loop-line.core) c.loop-line.read
    c.loop-line.invariant.so_far (omega (arith, c.loop-line-test.false)) in
    record { does = all.0; read = all.1; config = c.loop-line.invariant.config; id = c.loop-line.invariant.id }
