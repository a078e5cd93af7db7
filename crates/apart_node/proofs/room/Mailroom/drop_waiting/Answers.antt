-- A message is taken out of its pool.
use Rattle.std.proofs.Common.{◌∙◌}
use Rattle.std.proofs.lemmas.Option.{get_or_from_slice_get, slice_get_within}
use Rattle.base_lemmas.proofs.Lemmas.{get-set}
use Rattle.apart_node.specs.Deeds.{IsWaiting}
use Rattle.apart_node.specs.RoomInside.{room_of}
use Rattle.apart_node.proofs.Picking.Tallied.{noted-again}
use Rattle.apart_node.proofs.Porting.Rooms.{dropped-room, dropped-sent, dropped-whole, port-read}
use Rattle.apart_node.proofs.room.Mailroom.drop_waiting.Goals as goal

pub invariant_of-self : goal.invariant_of-self
invariant_of-self c =
    let w = c.args.waiting.now in
    let h : IsWaiting (room_of c.self.inside) w = rw (← c.self.view_is) at c.requires in
    let p = port-read c.self.inside.ports.items w.seat c.index_mut.result.now h.port c.index_mut.ensures.value h.at in
    let within = slice_get_within c.self.inside.ports.items w.seat h.port h.at in
    record {
      placed = c.self.invariant.placed;
      room = rw (c.drop_letter.ensures, p)
          (dropped-whole (room_of c.self.inside) w h c.self.invariant.room);
      tally = rw c.note.ensures.noted
          (noted-again c.self.inside.ports.items c.self.inside.tally w.seat c.drop_letter.new.self c.index.result.now within
          (c.index.ensures ∙ get_or_from_slice_get _ w.seat c.drop_letter.new.self _
          (get-set c.self.inside.ports.items w.seat c.drop_letter.new.self within)) c.note.ensures.port c.self.invariant.tally);
    }

pub returns-clause-room : goal.returns-clause-room
returns-clause-room c =
    let w = c.args.waiting.now in
    let h : IsWaiting (room_of c.self.inside) w = rw (← c.self.view_is) at c.requires in
    let p = port-read c.self.inside.ports.items w.seat c.index_mut.result.now h.port c.index_mut.ensures.value h.at in
    rw (← c.self.view_is, c.drop_letter.ensures, p) (dropped-room (room_of c.self.inside) w h)

pub returns-clause-sent : goal.returns-clause-sent
returns-clause-sent c = λ stamp dst.
    let w = c.args.waiting.now in
    let h : IsWaiting (room_of c.self.inside) w = rw (← c.self.view_is) at c.requires in
    let p = port-read c.self.inside.ports.items w.seat c.index_mut.result.now h.port c.index_mut.ensures.value h.at in
    rw (← c.self.view_is, c.drop_letter.ensures, p) (dropped-sent (room_of c.self.inside) w h stamp dst)
