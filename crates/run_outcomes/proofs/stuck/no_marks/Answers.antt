use Rattle.std.proofs.Common.{arith}
use Rattle.run_outcomes.proofs.Marking.{push-unmarked}
use Rattle.std.proofs.lemmas.Grind.{common_steps}
use Rattle.run_outcomes.proofs.stuck.no_marks.Goals as goal

pub loop-k-preserved : goal.loop-k-preserved
loop-k-preserved c = (grind (arith, common_steps), push-unmarked c.loop-k.marked c.push.new.self c.in_ok-push.ensures c.loop-k.invariant.1)
