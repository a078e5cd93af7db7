-- A line of memory.
use Rattle.std.proofs.Common.{ap, ◌∙◌}
use Rattle.rules_bus.specs.Exec.{line_words}
use Rattle.bus_tcc.specs.Machine.{bus_world_of, word_in}
use Rattle.bus_tcc.proofs.engine.Engine.line.Goals as goal

pub returns : goal.returns
unfolding bus_world_of
returns c = c.words_of_line.ensures ∙ ap (λ m. line_words (word_in m.ram) c.args.line.0) c.self.view_is
