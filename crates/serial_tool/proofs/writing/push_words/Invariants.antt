use Rattle.std.proofs.Common.{◌≡◌, ◌++◌, drop}
use Rattle.std.specs.List.{flat_map}
use Rattle.row_text.specs.Rows.{number_text}
use Rattle.serial_tool.proofs.writing.push_words.Given as goal

-- what is written and the words to come are what stood there and all words
abbrev pub invariant-loop-word : goal.invariant-loop-word
invariant-loop-word l = l.text ++ flat_map number_text (drop l.word-index l.words) ≡ l.fn.text ++ flat_map number_text l.words
