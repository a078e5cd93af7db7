-- What is written, with the numbers that are left, is the word and all numbers.
use Rattle.std.proofs.Common.{◌≡◌, ◌++◌, drop}
use Rattle.std.specs.List.{flat_map}
use Rattle.row_text.specs.Rows.{number_text}
use Rattle.checkpoint_text.proofs.entries.begin_long.Given as goal

abbrev pub invariant-loop-number : goal.invariant-loop-number
invariant-loop-number l =
    l.text ++ flat_map number_text (drop l.number-index l.numbers) ≡ l.fn.text ++ (l.word ++ flat_map number_text l.numbers)
