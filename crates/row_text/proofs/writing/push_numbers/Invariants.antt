use Rattle.std.proofs.Common.{◌≡◌, ◌++◌, drop, length, take}
use Rattle.std.specs.List.{flat_map}
use Rattle.row_text.specs.Rows.{number_text}
use Rattle.row_text.proofs.writing.push_numbers.Given as goal

-- what is written and the numbers to come are what stood there and all numbers
abbrev pub invariant-loop-number : goal.invariant-loop-number
invariant-loop-number l = record {
  written : l.text ++ flat_map number_text (drop l.number-index l.numbers) ≡ l.fn.text ++ flat_map number_text l.numbers;
  keeps : take (length l.fn.text) l.text ≡ l.fn.text;
}
