-- Part by part.
use Rattle.checkpoint_run.proofs.Rows.{run-written}
use Rattle.checkpoint_run.proofs.writing.push_run.Goals as goal

pub returns-clause-text : goal.returns-clause-text
returns-clause-text c =
    run-written c.args.run.now _ _ _ _ _ _ c.counts.ensures c.system.ensures c.in_ok-push_head.ensures c.in_ok-push_counts.ensures
    c.in_ok-push_machine.ensures.text
