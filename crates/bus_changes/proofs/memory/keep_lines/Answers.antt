-- The next line is taken.
use Rattle.std.proofs.Common.{arith, refl, ◌∙◌}
use Rattle.bus_tcc.specs.Machine.{bus_world_of, word_in}
use Rattle.bus_changes.specs.Memory.{is_among}
use Rattle.bus_changes.proofs.Words.{taken-more}
use Rattle.bus_changes.proofs.memory.keep_lines.Goals as goal

pub loop-at-init : goal.loop-at-init
unfolding is_among
loop-at-init c = (omega arith, refl, λ x. refl)

pub loop-at-preserved : goal.loop-at-preserved
loop-at-preserved c = (
  omega (arith, c.loop-at-test.true),
  c.keep_line.ensures.count ∙ c.loop-at.invariant.1,
  taken-more c.args.touched.now c.loop-at.at _ (word_in c.args.ram.now) (word_in c.loop-at.ram) (word_in c.keep_line.new.ram)
      (bus_world_of c.args.system.now).ram c.loop-at-test.true c.loop-at.invariant.2 c.keep_line.ensures.words,
)
