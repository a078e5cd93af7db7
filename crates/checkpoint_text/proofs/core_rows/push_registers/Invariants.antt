-- What is written, with the registers that are left, is all of them, of which there are 32.
use Rattle.std.proofs.Common.{◌≡◌, ◌<◌, ◌++◌, drop, length}
use Rattle.std.specs.List.{flat_map}
use Rattle.row_text.specs.Rows.{number_text}
use Rattle.checkpoint_text.proofs.core_rows.push_registers.Given as goal

abbrev pub invariant-loop-number : goal.invariant-loop-number
invariant-loop-number l = record {
  written : l.text ++ flat_map number_text (drop l.number l.regs) ≡ l.fn.text ++ flat_map number_text l.regs;
  count : 0 < l.number → length l.regs ≡ 32;
}
