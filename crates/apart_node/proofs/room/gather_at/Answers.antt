-- The port gathers, and is noted.
use Rattle.std.proofs.Common.{◌≡◌, ◌<◌, get_or, length, sym, ◌∙◌, arith}
use Rattle.std.specs.Prelude.{slice_set}
use Rattle.std.proofs.lemmas.List.{length-set}
use Rattle.std.proofs.lemmas.Option.{same_Some, slice_get-get_or}
use Rattle.base_lemmas.proofs.Lemmas.{get-set}
use Rattle.apart_node.specs.Moves.{Takes}
use Rattle.apart_node.proofs.Picking.Tallied.{noted-again}
use Rattle.apart_node.proofs.Porting.ChangedElement.{each-set}
use Rattle.apart_node.proofs.Porting.SeveralMoves.{takes-refl}
use Rattle.apart_node.proofs.room.gather_at.Goals as goal

pub returns-clause-takes : goal.returns-clause-takes
returns-clause-takes g c =
    let ports = c.args.ports.now in
    let r = c.index-ports-seat.result in
    each-set Takes ports c.args.seat (get_or ports c.args.seat r) c.gather-met.new.self
    (slice_get-get_or ports c.args.seat r c.requires.exists) c.gather-met.ensures takes-refl c.requires.exists

pub returns-clause-tallied : goal.returns-clause-tallied
returns-clause-tallied g c =
    let ports = c.args.ports.now in
    let seat = c.args.seat in
    let new = c.gather-met.new.self in
    let after = slice_set ports seat new in
    let q = get_or after seat c.index-ports-seat-2.result in
    let there : seat < length after = (let l = c.requires.exists in let n = length-set ports seat new in omega (arith, l, n)) in
    let read = slice_get-get_or after seat c.index-ports-seat-2.result there in
    let same : q ≡ new = same_Some q new (sym read ∙ get-set ports seat new c.requires.exists) in
    rw c.note.ensures.noted (noted-again ports c.args.tally.now seat new q c.requires.exists same c.note.ensures.port c.requires.tallied)
