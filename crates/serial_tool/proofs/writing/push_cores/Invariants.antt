use Rattle.std.proofs.Common.{◌≡◌, ◌++◌, drop}
use Rattle.row_text.specs.Rows.{rows_text}
use Rattle.serial_tool.specs.PlainTexts.{core_rows}
use Rattle.serial_tool.proofs.writing.push_cores.Given as goal

-- what is written and the cores to come are what stood there and all cores
abbrev pub invariant-loop-number : goal.invariant-loop-number
invariant-loop-number l =
    l.text ++ rows_text (core_rows l.number (drop l.number l.cores)) ≡ l.fn.text ++ rows_text (core_rows 0 l.cores)
