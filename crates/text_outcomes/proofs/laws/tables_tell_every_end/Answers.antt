use Rattle.text_outcomes.proofs.Ends.{tables-tell-every-end}
use Rattle.text_outcomes.proofs.laws.tables_tell_every_end.Goals as goal

pub returns : goal.returns
returns c = tables-tell-every-end
