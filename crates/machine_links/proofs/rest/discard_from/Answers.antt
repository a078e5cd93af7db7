-- What is taken from a piece is taken from all.
use Rattle.std.proofs.Common.{◌≡◌, ◌<◌, ◌≤◌, [], length, get_or, sym, subst, ap, ◌∙◌, arith}
use Rattle.std.proofs.lemmas.List.{get_or_read, get_or_past}
use Rattle.machine_links.specs.Laid.{held_at}
use Rattle.machine_links.specs.Pieces.{AreRising, Taken, flat}
use Rattle.machine_links.proofs.Pieces.{rising-at, taken-read}
use Rattle.machine_links.proofs.Full.{full-but, full-set}
use Rattle.machine_links.proofs.rest.discard_from.Goals as goal

pub returns-then-at-len-clause-none : goal.returns-then-at-len-clause-none
unfolding held_at
returns-then-at-len-clause-none c =
    let xs = c.args.pieces.now.items in
    let past : length xs ≤ c.piece_of-at.result = omega (arith, c.if-at-len.true, c.len.ensures, c.args.pieces.now.ok) in
    (rw c.deref.ensures.value at c.piece_of-at.ensures) ∙ ap (λ ws. held_at ws c.args.seq) (get_or_past xs c.piece_of-at.result [] past)

pub discard-requires : goal.discard-requires
discard-requires c =
    let xs = c.args.pieces.now.items in
    let lt : c.piece_of-at.result < length xs = omega (arith, c.if-at-len.false, c.len.ensures, c.args.pieces.now.ok) in
    subst AreRising (sym (get_or_read xs c.piece_of-at.result c.index_mut.result.now lt c.index_mut.ensures.value []))
    (rising-at xs c.piece_of-at.result c.requires.rising)

pub returns-clause-some : goal.returns-clause-some
returns-clause-some c =
    let xs = c.args.pieces.now.items in
    let lt : c.piece_of-at.result < length xs = omega (arith, c.if-at-len.false, c.len.ensures, c.args.pieces.now.ok) in
    subst (λ ws. Taken (flat xs) ws c.args.seq c.in_ok-marked.marked) (sym c.drop_empty.ensures.same)
    (taken-read xs c.piece_of-at.result c.index_mut.result.now c.discard.new.self c.args.seq c.in_ok-marked.marked lt
    c.index_mut.ensures.value c.in_ok-marked.ensures.some)

pub drop_empty-requires-clause-others : goal.drop_empty-requires-clause-others
drop_empty-requires-clause-others c =
    full-but c.args.pieces.now.items c.piece_of-at.result c.discard.new.self c.requires.full

pub returns-in_err-marked-clause-full : goal.returns-in_err-marked-clause-full
returns-in_err-marked-clause-full c =
    let xs = c.args.pieces.now.items in
    let lt : c.piece_of-at.result < length xs = omega (arith, c.if-at-len.false, c.len.ensures, c.args.pieces.now.ok) in
    let same : length c.discard.new.self ≡ length (get_or xs c.piece_of-at.result []) =
    ap length (c.in_err-marked.ensures.unchanged
    ∙ get_or_read xs c.piece_of-at.result c.index_mut.result.now lt c.index_mut.ensures.value []) in
    full-set xs c.piece_of-at.result c.discard.new.self lt c.requires.full (omega (arith, c.requires.full c.piece_of-at.result lt))
