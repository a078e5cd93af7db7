-- So many events were taken: the lines from a number on are those from this one less.
use Rattle.bus_run.proofs.Before.{Skipping}
use Rattle.bus_run.proofs.skipping.skip.Given as goal

abbrev pub invariant-loop : goal.invariant-loop
invariant-loop l = Skipping l.fn.run l.run l.counter
