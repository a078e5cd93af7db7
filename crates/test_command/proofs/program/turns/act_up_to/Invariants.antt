use Rattle.std.proofs.Common.{◌≡◌}
use Rattle.test_command.proofs.program.turns.act_up_to.Given as goal

abbrev pub invariant-loop-moved : goal.invariant-loop-moved
invariant-loop-moved g l = l.nodes.code ≡ l.fn.nodes.code
