use Rattle.tcc_words.proofs.Bounded.{in-bounds}
use Rattle.tcc_words.proofs.laws.commands_are_in_bounds.Goals as goal

pub returns : goal.returns
returns c = in-bounds
