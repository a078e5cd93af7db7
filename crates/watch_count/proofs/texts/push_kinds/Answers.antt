use Rattle.std.proofs.Common.{arith}
use Rattle.std.proofs.lemmas.Grind.{common_steps}
use Rattle.std.proofs.lemmas.List.{drop_more}
use Rattle.watch_count.specs.Text.{kinds_from}
use Rattle.watch_count.proofs.texts.push_kinds.Goals as goal

pub loop-place-preserved : goal.loop-place-preserved
unfolding kinds_from
loop-place-preserved c = grind (arith, common_steps, drop_more)

pub returns : goal.returns
unfolding kinds_from
returns c = grind (arith, common_steps)
