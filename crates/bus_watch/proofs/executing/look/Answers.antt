-- The need of the instruction is that of the rules' program, and so is the word that it reads.
use Rattle.std.proofs.Common.{ap, ◌∙◌}
use Rattle.core_node.specs.View.{core_of}
use Rattle.rules_bus.specs.Exec.{word_read}
use Rattle.bus_watch.specs.Happened.{comes_from_memory}
use Rattle.bus_watch.proofs.executing.look.Goals as goal

pub returns : goal.returns
returns c = record {
  core = c.look_at-seen.ensures;
  from_memory = c.comes_from_memory.ensures
      ∙ ap (comes_from_memory (core_of c.args.node.now))
      (c.word_read.ensures ∙ (λ i. word_read ((c.config.ensures ∙ c.requires) i).base (c.look_at-seen.ensures.need i)));
}
