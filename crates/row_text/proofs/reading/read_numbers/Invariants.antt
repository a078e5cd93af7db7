use Rattle.std.proofs.Common.{◌≡◌, ◌++◌, ◌-◌, length, take}
use Rattle.std.specs.List.{flat_map}
use Rattle.row_text.specs.Rows.{AreNumbers, number_text}
use Rattle.row_text.specs.Reading.{HasNoNumbers}
use Rattle.row_text.proofs.reading.read_numbers.Given as goal

-- what was read and what follows it are all bytes; where the rest hasn't as many numbers as are wanted, the bytes haven't
abbrev pub invariant-loop-i : goal.invariant-loop-i
invariant-loop-i l = record {
  parts : l.bytes ≡ flat_map number_text (take l.i l.numbers) ++ l.rest;
  numbers : AreNumbers (take l.i l.numbers);
  count : length l.numbers ≡ length l.fn.numbers;
  only : HasNoNumbers l.rest (length l.fn.numbers - l.i) → HasNoNumbers l.bytes (length l.fn.numbers);
}
