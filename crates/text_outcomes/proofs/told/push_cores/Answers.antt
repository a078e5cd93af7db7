use Rattle.std.proofs.Common.{arith}
use Rattle.std.proofs.lemmas.Grind.{common_steps}
use Rattle.std.proofs.lemmas.List.{drop_more}
use Rattle.report_text.specs.Text.{cores_text}
use Rattle.text_outcomes.proofs.told.push_cores.Goals as goal

pub loop-number-preserved : goal.loop-number-preserved
unfolding cores_text
loop-number-preserved c = grind (arith, common_steps, drop_more)

pub returns : goal.returns
unfolding cores_text
returns c = grind (arith, common_steps)
