-- The flags as one row.
use Rattle.std.proofs.Common.{[], ◌∷◌}
use Rattle.checkpoint_text.proofs.Written.{long-row}
use Rattle.checkpoint_text.proofs.dir_rows.push_skips.Goals as goal

pub returns-clause-text : goal.returns-clause-text
returns-clause-text c =
    long-row _ (c.args.k ∷ []) _ _ _ _ _ c.in_ok-begin_long.ensures c.in_ok-push_flags.ensures.text c.in_ok-end_row.ensures
