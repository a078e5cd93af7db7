-- Of the last lines a first part was written.
use Rattle.std.proofs.Common.{inr}
use Rattle.std.specs.String.{string_bytes}
use Rattle.watch_trace.specs.Text.{tail_text}
use Rattle.text_runs.proofs.Bytes.{end-cut, rose-later}
use Rattle.text_runs.proofs.pieces.tell_end.Goals as goal

pub returns-in-Err-put_all-clause-cut : goal.returns-in-Err-put_all-clause-cut
returns-in-Err-put_all-clause-cut g c =
    let cut = c.in-Err-put_all.ensures.cut in (
      inr (end-cut (string_bytes c.args.held.now) (tail_text c.args.done c.args.events) (string_bytes c.put_all.new.held) _ _ _ _ cut.0
          c.in-Ok.ensures.written c.in-Ok.ensures.empty c.in-Ok-push_tail.ensures cut.1 cut.2),
      rose-later _ _ _ c.in-Ok.ensures.faults_stay c.in-Err-put_all.ensures.cause,
    )
