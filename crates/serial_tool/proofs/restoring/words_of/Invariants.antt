use Rattle.std.proofs.Common.{◌≡◌, ◌<◌, ◌+◌, ℕ, length, slice_index}
use Rattle.serial_tool.proofs.restoring.words_of.Given as goal

-- the words so far have these numbers
abbrev pub invariant-loop-place : goal.invariant-loop-place
invariant-loop-place l = record {
  count : length l.words ≡ 8;
  each : (k : ℕ) → k < l.place → slice_index l.words k ≡ slice_index l.numbers (k + 1);
}
