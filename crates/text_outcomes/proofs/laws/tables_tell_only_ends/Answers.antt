use Rattle.text_outcomes.proofs.Ends.{tables-tell-only-ends}
use Rattle.text_outcomes.proofs.laws.tables_tell_only_ends.Goals as goal

pub returns : goal.returns
returns c = tables-tell-only-ends
