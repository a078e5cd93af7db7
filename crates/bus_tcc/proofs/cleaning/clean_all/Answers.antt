-- All lines are clean.
use Rattle.std.proofs.Common.{refl, ◌∙◌, arith}
use Rattle.core_node.specs.View.{core_of}
use Rattle.bus_tcc.proofs.Cleaned.{cleaned-last, cleaned-next}
use Rattle.bus_tcc.proofs.cleaning.clean_all.Goals as goal

pub loop-line-init : goal.loop-line-init
loop-line-init c = record { so_far = refl; config = refl; id = refl }

pub loop-line-preserved : goal.loop-line-preserved
loop-line-preserved c = record {
  so_far = cleaned-next c.args.lines.now c.loop-line.line-index _ (core_of c.args.core.now) (core_of c.loop-line.core) (core_of
      c.clean.new.self)
      c.loop-line.invariant.so_far c.loop-line-test.true c.clean.ensures.does;
  config = c.clean.ensures.stays.config ∙ c.loop-line.invariant.config;
  id = c.clean.ensures.stays.id ∙ c.loop-line.invariant.id;
}

pub returns : goal.returns
returns c = record {
  does = cleaned-last c.args.lines.now c.loop-line.line-index (core_of c.args.core.now) (core_of c.loop-line.core)
      c.loop-line.invariant.so_far
      (omega (arith, c.loop-line-test.false));
  config = c.loop-line.invariant.config;
  id = c.loop-line.invariant.id;
}
