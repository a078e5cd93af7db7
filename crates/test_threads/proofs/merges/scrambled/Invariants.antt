use Rattle.test_threads.proofs.FirstLogs.{AreFirst}
use Rattle.test_threads.proofs.merges.scrambled.Given as goal

-- each core so far has its log
abbrev pub invariant-loop-number : goal.invariant-loop-number
invariant-loop-number l = AreFirst l.fn.config l.number l.by_node
