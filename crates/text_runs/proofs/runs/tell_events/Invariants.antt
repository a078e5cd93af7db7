-- The events so far came, and what is to be shown of them is held or written.
use Rattle.std.specs.String.{string_bytes}
use Rattle.text_runs.proofs.Telling.{Telling}
use Rattle.text_runs.proofs.runs.tell_events.Given as goal

abbrev pub invariant-loop-number : goal.invariant-loop-number
invariant-loop-number g l = Telling (g.R.TextRun.can l.run) (g.R.TextRun.leads l.fn.run l.run) l.number l.from
    (g.R.TextRun.left l.fn.run) (g.R.TextRun.left l.run) (string_bytes l.fn.held) (string_bytes l.held)
    (g.O.Sink.page l.fn.out).bytes (g.O.Sink.page l.out).bytes (g.O.Sink.page l.fn.out).faults (g.O.Sink.page l.out).faults
