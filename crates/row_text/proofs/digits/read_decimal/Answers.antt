use Rattle.std.proofs.Common.{true, refl, sym, ◌∙◌, true≢false, arith}
use Rattle.std.proofs.lemmas.Str.Pattern.{starts_char}
use Rattle.row_text.proofs.Numbers.{no-numeral, not-padded, not-signed, number-read, zero-alone}
use Rattle.row_text.proofs.digits.read_decimal.Goals as goal

pub returns-then-digits-eq1 : goal.returns-then-digits-eq1
returns-then-digits-eq1 c =
    let first = (starts_char 48 c.args.digits.now true c.if-starts_with.ensures.cases (omega arith) (omega arith)).0 refl in
    zero-alone c.args.digits.now first c.if-digits-eq1.true

pub returns-else-digits-eq1 : goal.returns-else-digits-eq1
returns-else-digits-eq1 c =
    let first = (starts_char 48 c.args.digits.now true c.if-starts_with.ensures.cases (omega arith) (omega arith)).0 refl in
    λ n is. not-padded c.args.digits.now n first c.if-digits-eq1.false is

pub returns-then-starts_with-2 : goal.returns-then-starts_with-2
returns-then-starts_with-2 c =
    let first = (starts_char 43 c.args.digits.now true c.if-starts_with-2.ensures.cases (omega arith) (omega arith)).0 refl in
    λ n is. not-signed c.args.digits.now n first is

pub returns-in-Ok : goal.returns-in-Ok
returns-in-Ok c =
    let zero = starts_char 48 c.args.digits.now c.starts_with.result c.starts_with.ensures.cases (omega arith) (omega arith) in
    let plus = starts_char 43 c.args.digits.now c.starts_with-2.result c.starts_with-2.ensures.cases (omega arith) (omega arith) in
    number-read c.args.digits.now c.in-Ok.number (λ e. true≢false (sym (plus.1 e) ∙ c.if-starts_with-2.false))
    (λ e. true≢false (sym (zero.1 e) ∙ c.if-starts_with.false)) c.in-Ok.ensures.value

pub returns-in-Err : goal.returns-in-Err
returns-in-Err c =
    let plus = starts_char 43 c.args.digits.now c.starts_with-2.result c.starts_with-2.ensures.cases (omega arith) (omega arith) in
    λ n is. no-numeral c.args.digits.now n (λ e. true≢false (sym (plus.1 e) ∙ c.if-starts_with-2.false)) c.in-Err.ensures.value is
