use Rattle.std.proofs.Common.{arith}
use Rattle.std.proofs.lemmas.Grind.{common_steps}
use Rattle.serial_tool.proofs.CoreReading.{no-registers, registers-read, registers-set}
use Rattle.serial_tool.proofs.restoring.registers_of.Goals as goal

pub returns-in_err-word_of : goal.returns-in_err-word_of
returns-in_err-word_of c =
    rw c.from_residual.ensures
    (no-registers c.args.numbers.now c.loop-number.number c.told-numbers c.loop-number.auto.number c.loop-number-test.true
    c.in_err-word_of.ensures)

pub loop-number-preserved : goal.loop-number-preserved
loop-number-preserved c =
    registers-set c.args.numbers.now c.loop-number.regs c.set.new.self c.loop-number.number c.in_ok-word_of.field-0
    c.loop-number.auto.number c.loop-number-test.true c.loop-number.invariant.count c.loop-number.invariant.each
    (grind (arith, common_steps)) c.in_ok-word_of.ensures

pub returns : goal.returns
returns c =
    registers-read c.args.numbers.now c.loop-number.regs c.told-numbers
    (λ k low high. c.loop-number.invariant.each k low (omega (arith, c.loop-number-test.false)))
