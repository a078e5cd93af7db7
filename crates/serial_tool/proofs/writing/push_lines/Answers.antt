use Rattle.std.proofs.Common.{◌≡◌, ◌++◌, ◌*◌, ◌/◌, length, drop, take, arith}
use Rattle.std.proofs.lemmas.Grind.{common_steps}
use Rattle.row_text.specs.Rows.{rows_text}
use Rattle.serial_tool.specs.PlainTexts.{mem_row}
use Rattle.serial_tool.proofs.Written.{line-written}
use Rattle.serial_tool.proofs.writing.push_lines.Goals as goal

pub loop-line-preserved : goal.loop-line-preserved
loop-line-preserved c =
    let pushed : c.push_line.new.text ≡ c.loop-line.text
    ++ rows_text (mem_row c.loop-line.line (take 8 (drop (8 * c.loop-line.line) c.args.ram.now))) =
    grind (arith, common_steps) in
    line-written (length c.args.ram.now / 8) c.loop-line.line c.args.ram.now c.args.text.now c.loop-line.text c.push_line.new.text _
    c.loop-line-test.true c.loop-line.invariant pushed
