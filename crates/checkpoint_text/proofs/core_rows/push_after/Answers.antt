-- The TIDs as one row.
use Rattle.std.proofs.Common.{[], ◌∷◌}
use Rattle.checkpoint_text.proofs.Written.{long-row}
use Rattle.checkpoint_text.proofs.core_rows.push_after.Goals as goal

pub returns : goal.returns
returns c =
    long-row _ (c.args.k ∷ []) _ _ _ _ _ c.in_ok-begin_long.ensures
    c.in_ok-push_tids.ensures c.in_ok-end_row.ensures
