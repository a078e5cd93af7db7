-- What the peer has taken is a beginning of what was sent.
use Rattle.std.proofs.Common.{ap, sym, ◌∙◌, arith}
use Rattle.rules_maps.specs.Bridge.{node_of}
use Rattle.apart_node.specs.Linked.{IsLinkedTo}
use Rattle.apart_node.specs.RoomInside.{room_of}
use Rattle.apart_node.proofs.Porting.Rooms.{found-at, heard, port-found, port-read, seat-within, set-same}
use Rattle.apart_node.proofs.room.Mailroom.hear.Goals as goal

pub unreachable-requires : goal.unreachable-requires
unreachable-requires g c =
    let h : IsLinkedTo (room_of c.self.inside) (room_of c.peer.inside) = rw (← c.self.view_is, ← c.peer.view_is) at c.requires in
    let f = found-at (room_of c.self.inside) (node_of c.peer.inside.own) h.there h.to in
    c.in_default.not-Some f.0 (c.seat_of.ensures ∙ f.1)

pub unreachable-requires-in_default-seat_of : goal.unreachable-requires-in_default-seat_of
unreachable-requires-in_default-seat_of g c =
    let h : IsLinkedTo (room_of c.self.inside) (room_of c.peer.inside) = rw (← c.self.view_is, ← c.peer.view_is) at c.requires in
    let f = found-at (room_of c.peer.inside) (node_of c.self.inside.own) h.back h.from in
    c.in_default-seat_of.not-Some f.0 (c.seat_of-2.ensures ∙ f.1)

pub index_mut-requires : goal.index_mut-requires
index_mut-requires g c =
    omega (
      arith,
      seat-within (room_of c.self.inside) (node_of c.peer.inside.own) c.in-Some.there c.self.invariant.room (sym c.seat_of.ensures
          ∙ c.in-Some.is),
      c.self.inside.ports.ok.0,
    )

pub index_mut-requires-2 : goal.index_mut-requires-2
index_mut-requires-2 g c =
    omega (
      arith,
      seat-within (room_of c.peer.inside) (node_of c.self.inside.own) c.in-Some-seat_of.back c.peer.invariant.room (sym c.seat_of-2.ensures
          ∙ c.in-Some-seat_of.is),
      c.peer.inside.ports.ok.0,
    )

pub hear-requires : goal.hear-requires
hear-requires g c =
    let a = room_of c.self.inside in
    let b = room_of c.peer.inside in
    let h : IsLinkedTo a b = rw (← c.self.view_is, ← c.peer.view_is) at c.requires in
    let x = port-read a.ports c.in-Some.there c.index_mut.result.now h.there c.index_mut.ensures.value
    (port-found a (node_of b.own) h.there c.in-Some.there h.to (sym c.seat_of.ensures ∙ c.in-Some.is)) in
    let y = port-read b.ports c.in-Some-seat_of.back c.index_mut-2.result.now h.back c.index_mut-2.ensures.value
    (port-found b (node_of a.own) h.back c.in-Some-seat_of.back h.from (sym c.seat_of-2.ensures ∙ c.in-Some-seat_of.is)) in
    rw (x, y) h.link

pub returns-clause-begins : goal.returns-clause-begins
returns-clause-begins g c = λ stamp.
    let a = room_of c.self.inside in
    let b = room_of c.peer.inside in
    let h : IsLinkedTo a b = rw (← c.self.view_is, ← c.peer.view_is) at c.requires in
    let x = port-read a.ports c.in-Some.there c.index_mut.result.now h.there c.index_mut.ensures.value
    (port-found a (node_of b.own) h.there c.in-Some.there h.to (sym c.seat_of.ensures ∙ c.in-Some.is)) in
    let y = port-read b.ports c.in-Some-seat_of.back c.index_mut-2.result.now h.back c.index_mut-2.ensures.value
    (port-found b (node_of a.own) h.back c.in-Some-seat_of.back h.from (sym c.seat_of-2.ensures ∙ c.in-Some-seat_of.is)) in
    rw (← c.self.view_is, ← c.peer.view_is) (heard a b h stamp c.hear.ensures.begins.0 (rw (x, y) at c.hear.ensures.begins.1))

pub returns-clause-unchanged : goal.returns-clause-unchanged
returns-clause-unchanged g c =
    rw (← c.self.view_is) (ap (λ ps. record (room_of c.self.inside) { ports = ps })
    (set-same c.self.inside.ports.items c.in-Some.there c.index_mut.result.now c.hear.new.self c.index_mut.ensures.value
    c.hear.ensures.unchanged))

pub returns-clause-peer : goal.returns-clause-peer
returns-clause-peer g c =
    rw (← c.peer.view_is) (ap (λ ps. record (room_of c.peer.inside) { ports = ps })
    (set-same c.peer.inside.ports.items c.in-Some-seat_of.back c.index_mut-2.result.now c.hear.new.peer c.index_mut-2.ensures.value
    c.hear.ensures.peer))

pub invariant_of-self : goal.invariant_of-self
invariant_of-self g c = record {
  placed = c.self.invariant.placed;
  room = rw (set-same c.self.inside.ports.items c.in-Some.there c.index_mut.result.now c.hear.new.self c.index_mut.ensures.value
      c.hear.ensures.unchanged)
      c.self.invariant.room;
  tally = rw (set-same c.self.inside.ports.items c.in-Some.there c.index_mut.result.now c.hear.new.self c.index_mut.ensures.value
      c.hear.ensures.unchanged)
      c.self.invariant.tally;
}

pub invariant_of-peer : goal.invariant_of-peer
invariant_of-peer g c = record {
  placed = c.peer.invariant.placed;
  room = rw (set-same c.peer.inside.ports.items c.in-Some-seat_of.back c.index_mut-2.result.now c.hear.new.peer c.index_mut-2.ensures.value
      c.hear.ensures.peer)
      c.peer.invariant.room;
  tally = rw (set-same c.peer.inside.ports.items c.in-Some-seat_of.back c.index_mut-2.result.now c.hear.new.peer c.index_mut-2.ensures.value
      c.hear.ensures.peer)
      c.peer.invariant.tally;
}
