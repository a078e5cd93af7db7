use Rattle.std.proofs.Common.{true≢false, sym, ◌∙◌, arith}
use Rattle.std.proofs.lemmas.List.{take_rest}
use Rattle.row_text.proofs.Fronts.{IsField, no-word-empty, no-word-other, word-read}
use Rattle.row_text.proofs.reading.word.Goals as goal

pub returns-then-end-eq0 : goal.returns-then-end-eq0
returns-then-end-eq0 c =
    let field : IsField c.args.bytes.now c.field_end-end.result =
    record { inside = c.field_end-end.ensures.inside; ends = c.field_end-end.ensures.ends } in
    no-word-empty c.args.bytes.now c.field_end-end.result field c.if-end-eq0.true

pub returns-then-not-are_word_bytes : goal.returns-then-not-are_word_bytes
returns-then-not-are_word_bytes c =
    let field : IsField c.args.bytes.now c.field_end-end.result =
    record { inside = c.field_end-end.ensures.inside; ends = c.field_end-end.ensures.ends } in
    no-word-other c.args.bytes.now c.field_end-end.result field
    (λ all. true≢false (sym (c.are_word_bytes.ensures.1 all) ∙ c.if-not-are_word_bytes.true))

pub returns : goal.returns
returns c =
    let field : IsField c.args.bytes.now c.field_end-end.result =
    record { inside = c.field_end-end.ensures.inside; ends = c.field_end-end.ensures.ends } in
    rw take_rest (word-read c.args.bytes.now c.field_end-end.result field c.field_end-end.ensures.within (omega arith)
    (c.are_word_bytes.ensures.0 c.if-not-are_word_bytes.false))
