use Rattle.std.proofs.Common.{◌≡◌}
use Rattle.test_threads.proofs.links.send.Given as goal

abbrev pub invariant-loop-stamp : goal.invariant-loop-stamp
invariant-loop-stamp g l = (l.outlet.link ≡ l.fn.outlet.link) × (l.outlet.ends ≡ l.fn.outlet.ends)
