-- Row by row.
use Rattle.checkpoint_run.proofs.Rows.{head-written}
use Rattle.checkpoint_run.proofs.writing.push_head.Goals as goal

pub returns : goal.returns
returns c =
    head-written c.args.run.now _ _ _ _ _ c.seed.ensures c.drawn.ensures c.in_ok-push_row.ensures c.in_ok-push_row-2.ensures
