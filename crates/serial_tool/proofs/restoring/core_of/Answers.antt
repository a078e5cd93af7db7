use Rattle.std.proofs.Common.{None, sym, refl, arith}
use Rattle.serial_tool.proofs.CoreReading.{core-read, told}
use Rattle.serial_tool.proofs.restoring.core_of.Goals as goal

pub returns-then-numbers-core : goal.returns-then-numbers-core
returns-then-numbers-core c = λ s fits e. c.if-numbers-core.true (told c.args.core c.args.numbers.now s e).first

pub returns-in_err-pc : goal.returns-in_err-pc
returns-in_err-pc c =
    rw c.from_residual.ensures (λ s fits e.
    let pc = (told c.args.core c.args.numbers.now s e).second in
    let small = fits.pc in
    let large = c.in_err-pc.ensures in
    omega arith)

pub returns-in_err-ended : goal.returns-in_err-ended
returns-in_err-ended c =
    rw c.from_residual-in_err-ended.ensures (λ s fits e.
    let t = told c.args.core c.args.numbers.now s e in
    c.in_err-ended.ensures s.ended fits.code t.third t.fourth)

pub returns-in_err-regs : goal.returns-in_err-regs
returns-in_err-regs c =
    rw c.from_residual-in_err-regs.ensures (λ s fits e.
    c.in_err-regs.ensures s.state.regs fits.words (told c.args.core c.args.numbers.now s e).rest)

pub returns : goal.returns
returns c = (
  rw c.new.ensures (core-read c.args.numbers.now c.args.core
      (record {
        state = record { regs = c.in_ok-regs.regs; pc = c.in_ok-pc.pc; reserved = None };
        ended = c.in_ok-ended.ended;
        console = c.new-2.result;
      }) c.told-numbers c.if-numbers-core.false (sym c.in_ok-pc.ensures) c.in_ok-ended.ensures.0
      c.in_ok-ended.ensures.1 c.in_ok-regs.ensures),
  (rw c.new.ensures refl, c.new-2.ensures),
)
