use Rattle.row_text.proofs.Fronts.{no-row-numbers, no-row-word, row-answer}
use Rattle.row_text.proofs.reading.read_row.Goals as goal

pub returns-in_err-after_word-clause-read : goal.returns-in_err-after_word-clause-read
returns-in_err-after_word-clause-read c =
    rw c.from_residual.ensures (no-row-word c.args.bytes.now c.args.word.now _ c.in_err-after_word.ensures)

pub returns-in_err-after_numbers-clause-read : goal.returns-in_err-after_numbers-clause-read
returns-in_err-after_numbers-clause-read c =
    rw c.from_residual-in_err-after_numbers.ensures
    (no-row-numbers c.args.bytes.now c.args.word.now c.in_ok-after_word.after_word.now _ c.in_ok-after_word.ensures
    c.in_err-after_numbers.ensures.read)

pub returns-clause-read : goal.returns-clause-read
returns-clause-read c =
    row-answer c.args.bytes.now c.args.word.now c.in_ok-after_word.after_word.now c.read_numbers.new.numbers
    c.in_ok-after_numbers.after_numbers.now _ c.end.result c.in_ok-after_word.ensures c.in_ok-after_numbers.ensures.read
    c.in_ok-after_numbers.ensures.length c.end.ensures
