use Rattle.row_text.proofs.Numbers.{number-text}
use Rattle.row_text.proofs.reading.decimal_number.Goals as goal

pub returns-in-Err : goal.returns-in-Err
returns-in-Err c = λ n is. c.in-Err.ensures.cases.0 (number-text c.args.digits.now n is)
