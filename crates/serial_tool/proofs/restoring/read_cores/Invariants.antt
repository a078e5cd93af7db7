use Rattle.std.proofs.Common.{◌≡◌, ◌++◌, All, ℕ, List, drop, length}
use Rattle.row_text.specs.Rows.{rows_text}
use Rattle.rv_plain.specs.declared.plain.CoreState.{CoreState}
use Rattle.serial_tool.specs.PlainTexts.{CoreFits, IsFresh, core_rows}
use Rattle.serial_tool.proofs.restoring.read_cores.Given as goal

-- the rows so far are those of the cores so far, and the rest is what any cores with all rows have left
abbrev pub invariant-loop-core : goal.invariant-loop-core
invariant-loop-core l = record {
  numbers : length l.numbers ≡ 35;
  count : length l.found ≡ l.core;
  fresh : All IsFresh l.found;
  parts : l.bytes ≡ rows_text (core_rows 0 l.found) ++ l.rest;
  one : (cores : List CoreState) (tail : List ℕ) → length cores ≡ l.cores → All CoreFits cores
      → l.bytes ≡ rows_text (core_rows 0 cores) ++ tail → l.rest ≡ rows_text (core_rows l.core (drop l.core cores)) ++ tail;
}
