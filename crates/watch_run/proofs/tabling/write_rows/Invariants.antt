-- The events so far were taken and counted, and the rows that stand before the next of them were written.
use Rattle.net_core.specs.Machine.{start_of, world_of}
use Rattle.watch_run.proofs.Tabled.{Tabling}
use Rattle.watch_run.proofs.tabling.write_rows.Given as goal

abbrev pub invariant-loop : goal.invariant-loop
invariant-loop g l = Tabling l.rows l.fn.system l.system l.fn.counts l.counts
    (g.E.Events.coming l.fn.events (start_of l.fn.system) (world_of l.fn.system))
    (g.E.Events.coming l.events (start_of l.system) (world_of l.system))
    l.counter (g.O.Sink.page l.fn.out) (g.O.Sink.page l.out)
