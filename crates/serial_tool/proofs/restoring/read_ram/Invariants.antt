use Rattle.std.proofs.Common.{◌≡◌, ◌≤◌, ◌<◌, ◌+◌, ◌-◌, ◌*◌, ◌/◌, ◌^◌, ◌++◌, ℕ, List, All, true, drop, length}
use Rattle.row_text.specs.Rows.{rows_text}
use Rattle.serial_tool.specs.PlainTexts.{all_zero, mem_rows, ram_rows}
use Rattle.serial_tool.proofs.RamReading.{rest_rows}
use Rattle.serial_tool.proofs.restoring.read_ram.Given as goal

-- the rows so far are those of RAM below the next line, beyond which it is 0, and the rest is what any RAM with all rows has left
abbrev pub invariant-loop-after : goal.invariant-loop-after
invariant-loop-after l = record {
  numbers : length l.numbers ≡ 9;
  count : length l.ram ≡ length l.fn.ram;
  next : 8 * l.next ≤ length l.ram;
  line : l.line ≤ l.first + l.next;
  zero : all_zero (drop (8 * l.next) l.ram) ≡ true;
  parts : l.bytes ≡ rows_text (mem_rows l.next 0 l.ram) ++ l.rest;
  one : (ram : List ℕ) → length ram ≡ length l.fn.ram → All (λ w. w < 2 ^ 32) ram → l.bytes ≡ rows_text (ram_rows ram)
      → l.rest ≡ rows_text (rest_rows ram (length l.fn.ram / 8) l.next);
}

-- the lines that may come
abbrev pub decreases-loop-after : goal.decreases-loop-after
decreases-loop-after l = length l.ram - l.next
