use Rattle.std.proofs.Common.{◌≡◌, ◌++◌, ◌*◌, ◌/◌, ◌-◌, drop, length}
use Rattle.row_text.specs.Rows.{rows_text}
use Rattle.serial_tool.specs.PlainTexts.{mem_rows}
use Rattle.serial_tool.proofs.writing.push_lines.Given as goal

-- what is written and the lines to come are what stood there and all lines
abbrev pub invariant-loop-line : goal.invariant-loop-line
invariant-loop-line l =
    l.text ++ rows_text (mem_rows (length l.ram / 8 - l.line) l.line (drop (8 * l.line) l.ram))
    ≡ l.fn.text ++ rows_text (mem_rows (length l.ram / 8) 0 l.ram)
