-- The events so far were taken and counted.
use Rattle.bus_run.proofs.Counts.{Tallied}
use Rattle.bus_run.proofs.counting.count_events.Given as goal

abbrev pub invariant-loop : goal.invariant-loop
invariant-loop l = Tallied l.fn.run l.run l.counter l.fn.counts l.counts
