-- The first message goes onto its link.
use Rattle.std.proofs.Common.{◌<◌, drop, ◌+◌, length, length-drop, refl, sym, ◌∙◌, arith}
use Rattle.std.specs.Prelude.{slice_set}
use Rattle.std.proofs.lemmas.Option.{slice_get_read}
use Rattle.rules_maps.specs.Bridge.{node_of}
use Rattle.tcc_msg.specs.Plain.{msg_of}
use Rattle.apart_node.specs.RoomInside.{room_of}
use Rattle.apart_node.proofs.Picking.Tallied.{WaitsSame, same-tallied}
use Rattle.apart_node.proofs.Porting.ChangedElement.{each-set}
use Rattle.apart_node.proofs.Porting.Posted.{posted-same, with_sent}
use Rattle.apart_node.proofs.Porting.Rooms.{first-carried, first-is, outlet-carries, posted-room, posted-whole, seat-within}
use Rattle.apart_node.proofs.Porting.Seats.{seat-carried}
use Rattle.apart_node.proofs.room.Mailroom.post_next.Goals as goal

pub unreachable-requires : goal.unreachable-requires
unreachable-requires g c =
    let r = room_of c.self.inside in
    let x = c.index.result.now in
    let f = first-is c.self.inside.out.list.items c.self.inside.placed x (rw (← c.self.view_is) at c.requires) c.index.ensures in
    let b = first-carried r x.0 x.1 (drop (c.self.inside.placed + 1) c.self.inside.out.list.items) f c.self.invariant.room in
    let s = seat-carried r.settings (node_of r.own) (node_of x.0) (msg_of x.1) b in
    c.in_default.not-Some s.0 (c.seat_of.ensures ∙ s.1)

pub index_mut-requires : goal.index_mut-requires
index_mut-requires g c =
    omega (
      arith,
      seat-within (room_of c.self.inside) (node_of c.index.result.now.0) c.in-Some.seat c.self.invariant.room (sym c.seat_of.ensures
          ∙ c.in-Some.is),
      c.self.inside.ports.ok.0,
    )

pub send-requires : goal.send-requires
send-requires g c =
    let r = room_of c.self.inside in
    let x = c.index.result.now in
    let f = first-is c.self.inside.out.list.items c.self.inside.placed x (rw (← c.self.view_is) at c.requires) c.index.ensures in
    let b = first-carried r x.0 x.1 (drop (c.self.inside.placed + 1) c.self.inside.out.list.items) f c.self.invariant.room in
    let e = sym c.seat_of.ensures ∙ c.in-Some.is in
    let l = seat-within r (node_of x.0) c.in-Some.seat c.self.invariant.room e in
    outlet-carries r (node_of x.0) c.in-Some.seat c.index_mut.result.now x.1 c.self.invariant.room e
    (slice_get_read r.ports (length r.ports) c.in-Some.seat c.index_mut.result.now refl l c.index_mut.ensures.value) b

pub invariant_of-self-2 : goal.invariant_of-self-2
invariant_of-self-2 g c =
    let r = room_of c.self.inside in
    let x = c.index.result.now in
    let n : 0 < length (drop c.self.inside.placed c.self.inside.out.list.items) = rw (← c.self.view_is) at c.requires in
    let f = first-is c.self.inside.out.list.items c.self.inside.placed x n c.index.ensures in
    let e = sym c.seat_of.ensures ∙ c.in-Some.is in
    let l = seat-within r (node_of x.0) c.in-Some.seat c.self.invariant.room e in
    let p = slice_get_read r.ports (length r.ports) c.in-Some.seat c.index_mut.result.now refl l c.index_mut.ensures.value in
    record {
      placed = omega (arith, n, length-drop c.self.inside.placed c.self.inside.out.list.items);
      room = rw c.in_ok-send.ensures.sent (posted-whole r c.in-Some.seat c.index_mut.result.now
          (record { stamp = c.args.stamp; msg = x.1 }) x.0 x.1
          (drop (c.self.inside.placed + 1) c.self.inside.out.list.items) c.self.invariant.room f p l);
      tally = rw c.in_ok-send.ensures.sent (same-tallied r.ports
          (slice_set r.ports c.in-Some.seat (with_sent c.index_mut.result.now (record { stamp = c.args.stamp; msg = x.1 })))
          c.self.inside.tally (each-set WaitsSame r.ports c.in-Some.seat c.index_mut.result.now
          (with_sent c.index_mut.result.now (record { stamp = c.args.stamp; msg = x.1 })) p (record { inlet = refl; pool = refl })
          (λ q. record { inlet = refl; pool = refl }) l)
          c.self.invariant.tally);
    }

pub returns-clause-room : goal.returns-clause-room
returns-clause-room g c =
    let r = room_of c.self.inside in
    let x = c.index.result.now in
    let l = seat-within r (node_of x.0) c.in-Some.seat c.self.invariant.room (sym c.seat_of.ensures ∙ c.in-Some.is) in
    let p = slice_get_read r.ports (length r.ports) c.in-Some.seat c.index_mut.result.now refl l c.index_mut.ensures.value in
    rw (← c.self.view_is, c.in_ok-send.ensures.sent) (posted-room r c.in-Some.seat c.index_mut.result.now
    (record { stamp = c.args.stamp; msg = x.1 })
    (drop (c.self.inside.placed + 1) c.self.inside.out.list.items) p l)

pub returns-clause-sent : goal.returns-clause-sent
returns-clause-sent g c = λ dst.
    let r = room_of c.self.inside in
    let x = c.index.result.now in
    let f = first-is c.self.inside.out.list.items c.self.inside.placed x (rw (← c.self.view_is) at c.requires) c.index.ensures in
    let e = sym c.seat_of.ensures ∙ c.in-Some.is in
    let l = seat-within r (node_of x.0) c.in-Some.seat c.self.invariant.room e in
    let p = slice_get_read r.ports (length r.ports) c.in-Some.seat c.index_mut.result.now refl l c.index_mut.ensures.value in
    rw (← c.self.view_is, c.in_ok-send.ensures.sent)
    (posted-same r c.in-Some.seat c.index_mut.result.now c.args.stamp x.0 x.1
    (drop (c.self.inside.placed + 1) c.self.inside.out.list.items) f p e l dst)
