use Rattle.std.proofs.lemmas.List.{take_rest}
use Rattle.row_text.proofs.Fronts.{IsField, no-number-digits, no-number-space, number-front}
use Rattle.row_text.proofs.reading.number.Goals as goal

pub returns-in_err-digits : goal.returns-in_err-digits
returns-in_err-digits c = rw c.from_residual.ensures (no-number-space c.args.bytes.now c.in_err-digits.ensures)

pub returns-in_err-number : goal.returns-in_err-number
returns-in_err-number c =
    let field : IsField c.in_ok-digits.digits.now c.field_end-end.result =
    record { inside = c.field_end-end.ensures.inside; ends = c.field_end-end.ensures.ends } in
    rw c.from_residual-in_err-number.ensures
    (no-number-digits c.args.bytes.now c.in_ok-digits.digits.now c.field_end-end.result c.in_ok-digits.ensures field
    c.in_err-number.ensures)

pub returns : goal.returns
returns c =
    let field : IsField c.in_ok-digits.digits.now c.field_end-end.result =
    record { inside = c.field_end-end.ensures.inside; ends = c.field_end-end.ensures.ends } in
    rw take_rest (number-front c.args.bytes.now c.in_ok-digits.digits.now c.field_end-end.result c.in_ok-number.number
    c.in_ok-digits.ensures field c.in_ok-number.ensures)
