use Rattle.std.proofs.Common.{◌≡◌, ◌++◌, ◌-◌}
use Rattle.std.specs.List.{flat_map}
use Rattle.row_text.specs.Rows.{number_text}
use Rattle.serial_tool.specs.PlainTexts.{registers}
use Rattle.serial_tool.proofs.writing.push_registers.Given as goal

-- what is written and the registers to come are what stood there and all registers but x0
abbrev pub invariant-loop-number : goal.invariant-loop-number
invariant-loop-number l =
    l.text ++ flat_map number_text (registers (32 - l.number) l.number l.regs) ≡ l.fn.text ++ flat_map number_text (registers 31 1 l.regs)
