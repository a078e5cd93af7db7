use Rattle.std.proofs.Common.{◌≤◌, arith}
use Rattle.serial_tool.proofs.Texts.{fields-are, has-first, has-second, order-answer, rest-of}
use Rattle.serial_tool.proofs.fields.numbers.Goals as goal

pub returns-in_err-tid : goal.returns-in_err-tid
returns-in_err-tid c =
    rw c.from_residual.ensures (λ o is. has-first c.args.cores c.args.text.now o c.in_err-tid.ensures.cases is)

pub returns-in_err-core : goal.returns-in_err-core
returns-in_err-core c =
    let few : c.args.cores ≤ 256 = omega arith in
    rw c.from_residual-in_err-core.ensures
    (λ o is. has-second c.args.cores c.args.text.now o c.in_ok-tid.tid c.in_ok-tid.rest few c.in_ok-tid.ensures.cases
    c.in_err-core.ensures.cases is)

pub returns-in_err-read_decimal : goal.returns-in_err-read_decimal
returns-in_err-read_decimal c =
    rw c.from_residual-in_err-read_decimal.ensures
    (λ o is. c.in_err-read_decimal.ensures o.tid.0
    (rest-of c.args.cores c.args.text.now o c.in_ok-tid.tid c.in_ok-tid.rest c.in_ok-tid.ensures.cases is).0)

pub returns-in_err-read_decimal-2 : goal.returns-in_err-read_decimal-2
returns-in_err-read_decimal-2 c =
    let few : c.args.cores ≤ 256 = omega arith in
    rw c.from_residual-in_err-read_decimal-2.ensures
    (λ o is. c.in_err-read_decimal-2.ensures o.core.0
    (fields-are c.args.cores c.args.text.now o c.in_ok-tid.tid c.in_ok-tid.rest c.in_ok-core.core c.in_ok-core.n few
    (record { first = c.in_ok-tid.ensures.cases; second = c.in_ok-core.ensures.cases }) is).second)

pub returns-in_err-read_decimal-3 : goal.returns-in_err-read_decimal-3
returns-in_err-read_decimal-3 c =
    let few : c.args.cores ≤ 256 = omega arith in
    rw c.from_residual-in_err-read_decimal-3.ensures
    (λ o is. c.in_err-read_decimal-3.ensures o.n
    (fields-are c.args.cores c.args.text.now o c.in_ok-tid.tid c.in_ok-tid.rest c.in_ok-core.core c.in_ok-core.n few
    (record { first = c.in_ok-tid.ensures.cases; second = c.in_ok-core.ensures.cases }) is).third)

pub returns : goal.returns
returns c =
    order-answer c.args.cores c.args.text.now c.in_ok-tid.tid c.in_ok-tid.rest c.in_ok-core.core c.in_ok-core.n
    c.in_ok-read_decimal.field-0 c.in_ok-read_decimal-2.field-0 c.in_ok-read_decimal-3.field-0 c.order.result (omega arith)
    (record { first = c.in_ok-tid.ensures.cases; second = c.in_ok-core.ensures.cases })
    (record { first = c.in_ok-read_decimal.ensures; second = c.in_ok-read_decimal-2.ensures; third = c.in_ok-read_decimal-3.ensures })
    c.order.ensures
