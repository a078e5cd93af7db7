use Rattle.std.proofs.Common.{arith}
use Rattle.std.proofs.lemmas.Grind.{common_steps}
use Rattle.rules_program.specs.Registers.{register}
use Rattle.serial_tool.proofs.Written.{registers-end, registers-next}
use Rattle.serial_tool.proofs.writing.push_registers.Goals as goal

pub loop-number-preserved : goal.loop-number-preserved
unfolding register
loop-number-preserved c =
    let next = registers-next c.loop-number.number c.args.regs.now c.loop-number-test.true in
    grind (arith, common_steps, next)

pub returns : goal.returns
returns c =
    let none = registers-end c.loop-number.number c.args.regs.now c.loop-number-test.false in
    grind (arith, common_steps, none)
