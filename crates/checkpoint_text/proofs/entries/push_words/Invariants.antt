-- What is written, with the words that are left, is all words.
use Rattle.std.proofs.Common.{◌≡◌, ◌++◌, drop}
use Rattle.std.specs.List.{flat_map}
use Rattle.row_text.specs.Rows.{number_text}
use Rattle.checkpoint_text.proofs.entries.push_words.Given as goal

abbrev pub invariant-loop-word : goal.invariant-loop-word
invariant-loop-word l = l.text ++ flat_map number_text (drop l.word-index l.words) ≡ l.fn.text ++ flat_map number_text l.words
