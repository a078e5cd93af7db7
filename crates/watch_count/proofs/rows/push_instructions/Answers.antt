-- Piece after piece.
use Rattle.std.proofs.Common.{◌++◌, string_bytes, codes}
use Rattle.std.proofs.lemmas.Result.{on_ok_weaker}
use Rattle.schedule_text.specs.Grammar.{newline}
use Rattle.watch_count.specs.Lines.{who_word, named, row}
use Rattle.watch_count.proofs.Pieces.{grown7, went-well}
use Rattle.watch_count.proofs.rows.push_instructions.Goals as goal

pub returns : goal.returns
unfolding row
returns c =
    let t0 = string_bytes c.args.text.now in
    let t1 = string_bytes c.push_str.new.self in
    let t2 = string_bytes c.push_who.new.text in
    let t3 = string_bytes c.push_named.new.text in
    let t4 = string_bytes c.push_named-2.new.text in
    let t5 = string_bytes c.push_named-3.new.text in
    let t6 = string_bytes c.push_named-4.new.text in
    let t7 = string_bytes c.push_str-2.new.self in
    let p1 = codes "instructions " in
    let p2 = who_word c.args.who in
    let p3 = named (codes " executed ") c.args.core.now.instructions.executed in
    let p4 = named (codes " committed ") c.args.core.now.instructions.committed in
    let p5 = named (codes " lost ") c.args.core.now.instructions.lost in
    let p6 = named (codes " open ") c.args.core.now.instructions.still_open in
    let p7 = newline in
    on_ok_weaker c.push_str-2.result
    (λ last. grown7 t0 t1 t2 t3 t4 t5 t6 t7
    p1 p2 p3 p4 p5 p6 p7
    c.in_ok-push_str.ensures.bytes
    c.in_ok-push_who.ensures
    c.in_ok-push_named.ensures
    c.in_ok-push_named-2.ensures
    c.in_ok-push_named-3.ensures
    c.in_ok-push_named-4.ensures
    last)
    (went-well c.push_str-2.result (string_bytes c.push_str-2.new.self)
    (string_bytes c.push_named-4.new.text ++ newline) (string_bytes c.push_named-4.new.text)
    c.push_str-2.ensures.bytes)
