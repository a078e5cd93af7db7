-- A spilled line as one row.
use Rattle.std.proofs.Common.{[], ◌∷◌}
use Rattle.checkpoint_text.specs.Cores.{spilled_numbers}
use Rattle.checkpoint_text.proofs.Written.{long-row}
use Rattle.checkpoint_text.proofs.core_rows.push_spilled_line.Goals as goal

pub returns : goal.returns
unfolding spilled_numbers
returns c =
    long-row _ (c.args.k ∷ c.args.entry.now.0.0 ∷ c.args.entry.now.1.0 ∷ []) _ _ _ _ _ c.in_ok-begin_long.ensures
    c.in_ok-push_words.ensures c.in_ok-end_row.ensures
