-- Piece after piece.
use Rattle.std.proofs.Common.{◌++◌, string_bytes, codes}
use Rattle.std.proofs.lemmas.Result.{on_ok_weaker}
use Rattle.schedule_text.specs.Grammar.{newline}
use Rattle.watch_count.specs.Lines.{named, line_line}
use Rattle.watch_count.proofs.Pieces.{grown6, went-well}
use Rattle.watch_count.proofs.rows.push_line_line.Goals as goal

pub returns : goal.returns
unfolding line_line
returns c =
    let t0 = string_bytes c.args.text.now in
    let t1 = string_bytes c.push_named.new.text in
    let t2 = string_bytes c.push_named-2.new.text in
    let t3 = string_bytes c.push_named-3.new.text in
    let t4 = string_bytes c.push_named-4.new.text in
    let t5 = string_bytes c.push_named-5.new.text in
    let t6 = string_bytes c.push_str.new.self in
    let p1 = named (codes "line ") c.args.line in
    let p2 = named (codes " misses ") c.args.counts.now.misses in
    let p3 = named (codes " invalidations ") c.args.counts.now.invalidations in
    let p4 = named (codes " violations ") c.args.counts.now.violations in
    let p5 = named (codes " lost ") c.args.counts.now.lost in
    let p6 = newline in
    on_ok_weaker c.push_str.result
    (λ last. grown6 t0 t1 t2 t3 t4 t5 t6
    p1 p2 p3 p4 p5 p6
    c.in_ok-push_named.ensures
    c.in_ok-push_named-2.ensures
    c.in_ok-push_named-3.ensures
    c.in_ok-push_named-4.ensures
    c.in_ok-push_named-5.ensures
    last)
    (went-well c.push_str.result (string_bytes c.push_str.new.self)
    (string_bytes c.push_named-5.new.text ++ newline) (string_bytes c.push_named-5.new.text)
    c.push_str.ensures.bytes)
