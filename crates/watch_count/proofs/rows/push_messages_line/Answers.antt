-- Piece after piece.
use Rattle.std.proofs.Common.{◌++◌, string_bytes, codes, ap, ◌∙◌}
use Rattle.std.proofs.lemmas.Result.{on_ok_weaker}
use Rattle.schedule_text.specs.Grammar.{newline}
use Rattle.watch_count.specs.Lines.{kind_word, named, messages_line}
use Rattle.watch_count.proofs.Pieces.{grown8, went-well}
use Rattle.watch_count.specs.Totals.{in_flight}
use Rattle.watch_count.proofs.rows.push_messages_line.Goals as goal

pub returns : goal.returns
unfolding messages_line
returns c =
    let t0 = string_bytes c.args.text.now in
    let t1 = string_bytes c.push_str.new.self in
    let t2 = string_bytes c.push_kind.new.text in
    let t3 = string_bytes c.push_named.new.text in
    let t4 = string_bytes c.push_named-2.new.text in
    let t5 = string_bytes c.push_named-3.new.text in
    let t6 = string_bytes c.push_named-4.new.text in
    let t7 = string_bytes c.push_named-5.new.text in
    let t8 = string_bytes c.push_str-2.new.self in
    let p1 = codes "messages " in
    let p2 = kind_word c.args.place in
    let p3 = named (codes " sent ") c.args.messages.now.sent in
    let p4 = named (codes " took ") c.args.messages.now.took in
    let p5 = named (codes " dropped ") c.args.messages.now.dropped in
    let p6 = named (codes " asked ") c.args.messages.now.asked in
    let p7 = named (codes " flight ") (in_flight c.args.messages.now) in
    let p8 = newline in
    on_ok_weaker c.push_str-2.result
    (λ last. grown8 t0 t1 t2 t3 t4 t5 t6 t7 t8
    p1 p2 p3 p4 p5 p6 p7 p8
    c.in_ok-push_str.ensures.bytes
    c.in_ok-push_kind.ensures
    c.in_ok-push_named.ensures
    c.in_ok-push_named-2.ensures
    c.in_ok-push_named-3.ensures
    c.in_ok-push_named-4.ensures
    (c.in_ok-push_named-5.ensures ∙ ap (λ n. t6 ++ named (codes " flight ") n) c.in_flight-flight.ensures)
    last)
    (went-well c.push_str-2.result (string_bytes c.push_str-2.new.self)
    (string_bytes c.push_named-5.new.text ++ newline) (string_bytes c.push_named-5.new.text)
    c.push_str-2.ensures.bytes)
