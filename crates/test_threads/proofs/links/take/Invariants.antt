use Rattle.std.proofs.Common.{◌≡◌}
use Rattle.test_threads.proofs.links.take.Given as goal

abbrev pub invariant-loop : goal.invariant-loop
invariant-loop g l = l.inlet.link ≡ l.fn.inlet.link
