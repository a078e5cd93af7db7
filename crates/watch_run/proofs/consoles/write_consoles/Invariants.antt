-- The events so far were taken and counted, and what their commits print was written.
use Rattle.net_core.specs.Machine.{start_of, world_of}
use Rattle.watch_run.proofs.Printed.{Printing}
use Rattle.watch_run.proofs.consoles.write_consoles.Given as goal

abbrev pub invariant-loop : goal.invariant-loop
invariant-loop g l = Printing l.fn.system l.system l.fn.counts l.counts
    (g.E.Events.coming l.fn.events (start_of l.fn.system) (world_of l.fn.system))
    (g.E.Events.coming l.events (start_of l.system) (world_of l.system))
    l.counter (g.O.Sink.page l.fn.out) (g.O.Sink.page l.out)
