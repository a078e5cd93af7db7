use Rattle.std.proofs.Common.{◌≡◌, drop}
use Rattle.serial_tool.specs.PlainTexts.{all_zero}
use Rattle.serial_tool.proofs.writing.are_zero.Given as goal

-- the words to come decide
abbrev pub invariant-loop-word : goal.invariant-loop-word
invariant-loop-word l = all_zero (drop l.word-index l.words) ≡ all_zero l.words
