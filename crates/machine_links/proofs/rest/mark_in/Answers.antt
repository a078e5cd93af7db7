-- What is marked in a piece is marked in all.
use Rattle.std.proofs.Common.{◌<◌, ◌≤◌, [], length, sym, subst, ap, ◌∙◌, arith}
use Rattle.std.proofs.lemmas.List.{get_or_read, get_or_past}
use Rattle.machine_links.specs.Laid.{held_at}
use Rattle.machine_links.specs.Pieces.{AreRising}
use Rattle.machine_links.proofs.Pieces.{rising-at, marked-read}
use Rattle.machine_links.proofs.Full.{full-marked}
use Rattle.machine_links.proofs.rest.mark_in.Goals as goal

pub returns-then-at-len-clause-none : goal.returns-then-at-len-clause-none
unfolding held_at
returns-then-at-len-clause-none c =
    let xs = c.args.pieces.now.items in
    let past : length xs ≤ c.piece_of-at.result = omega (arith, c.if-at-len.true, c.len.ensures, c.args.pieces.now.ok) in
    (rw c.deref.ensures.value at c.piece_of-at.ensures) ∙ ap (λ ws. held_at ws c.args.seq) (get_or_past xs c.piece_of-at.result [] past)

pub set_ready-requires : goal.set_ready-requires
set_ready-requires c =
    let xs = c.args.pieces.now.items in
    let lt : c.piece_of-at.result < length xs = omega (arith, c.if-at-len.false, c.len.ensures, c.args.pieces.now.ok) in
    subst AreRising (sym (get_or_read xs c.piece_of-at.result c.index_mut.result.now lt c.index_mut.ensures.value []))
    (rising-at xs c.piece_of-at.result c.requires.rising)

pub returns-clause-some : goal.returns-clause-some
returns-clause-some c =
    let xs = c.args.pieces.now.items in
    let lt : c.piece_of-at.result < length xs = omega (arith, c.if-at-len.false, c.len.ensures, c.args.pieces.now.ok) in
    marked-read xs c.piece_of-at.result c.index_mut.result.now c.set_ready.new.self c.args.seq c.args.ready c.set_ready.result lt
    c.index_mut.ensures.value c.set_ready.ensures.some

pub returns-clause-full : goal.returns-clause-full
returns-clause-full c =
    let xs = c.args.pieces.now.items in
    let lt : c.piece_of-at.result < length xs = omega (arith, c.if-at-len.false, c.len.ensures, c.args.pieces.now.ok) in
    full-marked xs c.piece_of-at.result c.index_mut.result.now c.set_ready.new.self c.args.seq c.args.ready c.set_ready.result lt
    c.index_mut.ensures.value c.set_ready.ensures.some c.set_ready.ensures.unchanged c.requires.full
