use Rattle.std.proofs.Common.{◌≡◌, Some, None, get_or, sym, ◌∙◌, arith}
use Rattle.std.proofs.lemmas.Grind.{common_steps}
use Rattle.std.proofs.lemmas.List.{take_rest}
use Rattle.schedule_text.specs.Reading.{more_at, digits_at}
use Rattle.schedule_text.proofs.Numbers.{digits_stop, digits_step, digits_fail, digits_end}
use Rattle.schedule_text.proofs.fields.digits.Goals as goal

pub returns-then-byte-end : goal.returns-then-byte-end
returns-then-byte-end c =
    rw take_rest (sym c.loop-i.invariant
    ∙ digits_stop c.args.end c.loop-i.number c.loop-i.i c.args.bytes.now c.loop-i-test.true c.if-byte-end.true)

pub returns-in_err-number : goal.returns-in_err-number
returns-in_err-number c =
    let more : None ≡ more_at c.loop-i.number (get_or c.args.bytes.now c.loop-i.i 0) = grind (arith, common_steps) in
    let none : digits_at c.args.end c.args.first c.args.bytes.now ≡ None =
    sym c.loop-i.invariant
    ∙ digits_fail c.args.end c.loop-i.number c.loop-i.i c.args.bytes.now c.loop-i-test.true c.if-byte-end.false more in
    grind (arith, common_steps, none)

pub loop-i-preserved : goal.loop-i-preserved
loop-i-preserved c =
    let more : Some c.in_ok-number.number ≡ more_at c.loop-i.number (get_or c.args.bytes.now c.loop-i.i 0) = grind (arith, common_steps) in
    let m = c.in_ok-number.number in
    sym (digits_step c.args.end c.loop-i.number m c.loop-i.i c.args.bytes.now c.loop-i-test.true c.if-byte-end.false more)
    ∙ c.loop-i.invariant

pub returns : goal.returns
returns c = sym c.loop-i.invariant ∙ digits_end c.args.end c.loop-i.number c.loop-i.i c.args.bytes.now c.loop-i-test.false
