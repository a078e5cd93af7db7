-- The line, and then whether it keeps a word.
use Rattle.std.proofs.Common.{string_bytes}
use Rattle.watch_trace.specs.Words.{acknowledged_words}
use Rattle.watch_trace.proofs.Lists.{parts-joined}
use Rattle.watch_trace.proofs.words.push_acknowledged.Goals as goal

pub returns : goal.returns
unfolding acknowledged_words
returns c =
    parts-joined c.push_keeps.result (string_bytes c.args.text.now) (string_bytes c.push_field.new.text)
    (string_bytes c.push_keeps.new.text) _ _ c.in_ok-push_field.ensures c.push_keeps.ensures
