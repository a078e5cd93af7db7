-- A word of memory.
use Rattle.std.proofs.Common.{ap, ◌∙◌}
use Rattle.bus_tcc.specs.Machine.{bus_world_of, word_in}
use Rattle.bus_tcc.proofs.engine.Engine.word.Goals as goal

pub returns : goal.returns
unfolding bus_world_of
returns c = c.word_at.ensures ∙ ap (λ m. word_in m.ram c.args.w.0) c.self.view_is
