use Rattle.std.proofs.Common.{arith, rules}
use Rattle.std.proofs.lemmas.Grind.{common_steps}
use Rattle.image_load.specs.Contents.{started}
use Rattle.image_load.proofs.loaded.Loaded.fetch.Goals as goal

pub returns-in_err-place : goal.returns-in_err-place
unfolding started
returns-in_err-place c = rw c.from_residual.ensures (grind (arith, common_steps))

pub returns : goal.returns
unfolding started
returns c = search rules
