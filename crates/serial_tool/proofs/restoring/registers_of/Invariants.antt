use Rattle.std.proofs.Common.{◌≡◌, ◌≤◌, ◌<◌, ◌+◌, ℕ, length, slice_index}
use Rattle.serial_tool.proofs.restoring.registers_of.Given as goal

-- the registers so far have these numbers
abbrev pub invariant-loop-number : goal.invariant-loop-number
invariant-loop-number l = record {
  count : length l.regs ≡ 32;
  each : (k : ℕ) → 1 ≤ k → k < l.number → slice_index l.regs k ≡ slice_index l.numbers (3 + k);
}
