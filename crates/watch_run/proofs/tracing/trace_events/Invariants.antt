-- The events so far were taken, and their texts are held or written.
use Rattle.std.specs.String.{string_bytes}
use Rattle.net_core.specs.Machine.{start_of, world_of}
use Rattle.watch_run.proofs.Written.{Going}
use Rattle.watch_run.proofs.tracing.trace_events.Given as goal

abbrev pub invariant-loop-number : goal.invariant-loop-number
invariant-loop-number g l = Going l.fn.system l.system
    (g.E.Events.coming l.fn.events (start_of l.fn.system) (world_of l.fn.system))
    (g.E.Events.coming l.events (start_of l.system) (world_of l.system))
    l.number l.shown (string_bytes l.fn.held) (string_bytes l.held)
    (g.O.Sink.page l.fn.out).bytes (g.O.Sink.page l.out).bytes (g.O.Sink.page l.fn.out).faults (g.O.Sink.page l.out).faults
