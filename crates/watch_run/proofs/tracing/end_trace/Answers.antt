-- Of the last lines a first part was written.
use Rattle.std.proofs.Common.{inr, ◌++◌, ◌∙◌, ap}
use Rattle.std.specs.String.{string_bytes}
use Rattle.watch_trace.specs.Text.{tail_text}
use Rattle.watch_run.proofs.Traced.{end-cut, rose-later}
use Rattle.watch_run.proofs.tracing.end_trace.Goals as goal

pub returns-in-Err-put_all-clause-cut : goal.returns-in-Err-put_all-clause-cut
returns-in-Err-put_all-clause-cut g c =
    let cut = c.in-Err-put_all.ensures.cut in
    let done = c.done-done.result in
    let at = end-cut _ (tail_text done c.args.system.now.events) (string_bytes c.put_all.new.held) _ _ _ _ cut.0
    c.in-Ok.ensures.written c.in-Ok.ensures.empty
    (c.in-Ok-push_tail.ensures ∙ ap (λ n. string_bytes c.put_all.new.held ++ tail_text done n) c.events.ensures.count) cut.1 cut.2 in (
      inr (done, at.0, c.done-done.ensures, at.1, at.2),
      rose-later _ _ _ c.in-Ok.ensures.faults_stay c.in-Err-put_all.ensures.cause,
    )
