-- A frame as one row.
use Rattle.std.proofs.Common.{[], ◌∷◌}
use Rattle.checkpoint_text.specs.Cores.{frame_numbers}
use Rattle.checkpoint_text.proofs.Written.{long-row}
use Rattle.checkpoint_text.proofs.core_rows.push_frame.Goals as goal

pub returns : goal.returns
unfolding frame_numbers
returns c =
    let f = c.args.frame.now in
    long-row _ (c.args.k ∷ c.args.way ∷ f.line.0 ∷ f.valid.0 ∷ f.read.0 ∷ f.modified.0 ∷ f.dirty.0 ∷ f.tag.0 ∷ []) _ _ _ _ _
    c.in_ok-begin_long.ensures c.in_ok-push_words.ensures c.in_ok-end_row.ensures
