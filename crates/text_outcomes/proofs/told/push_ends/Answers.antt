use Rattle.std.proofs.Common.{arith}
use Rattle.std.proofs.lemmas.Grind.{common_steps}
use Rattle.std.proofs.lemmas.List.{drop_more}
use Rattle.text_outcomes.specs.Told.{ends_text}
use Rattle.text_outcomes.proofs.told.push_ends.Goals as goal

pub loop-number-preserved : goal.loop-number-preserved
unfolding ends_text
loop-number-preserved c = grind (arith, common_steps, drop_more)

pub returns : goal.returns
unfolding ends_text
returns c = grind (arith, common_steps)
