-- A message with words as one row.
use Rattle.checkpoint_text.proofs.Written.{long-row}
use Rattle.checkpoint_text.proofs.messages.push_data.Goals as goal

pub returns : goal.returns
returns c =
    long-row _ c.args.numbers.now _ _ _ _ _ c.in_ok-begin_long.ensures c.in_ok-push_words.ensures c.in_ok-end_row.ensures
