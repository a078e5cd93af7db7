-- What the number picks.
use Rattle.std.proofs.Common.{◌≡◌, ◌+◌, ◌-◌, ◌%◌, length, refl, ap, sym, ◌∙◌, arith}
use Rattle.std.proofs.lemmas.Option.{slice_get_read}
use Rattle.rules_maps.specs.Bridge.{node_of}
use Rattle.apart_node.specs.Drawn.{draws_from}
use Rattle.apart_node.specs.RoomInside.{room_of}
use Rattle.apart_node.specs.Tally.{AreReady, IsTallied}
use Rattle.apart_node.proofs.Picking.Drawing.{all-drawn, falls-below, falls-within, letter-drawn}
use Rattle.apart_node.proofs.Porting.Rooms.{port-here, waiting-at}
use Rattle.apart_node.proofs.room.Mailroom.draw.Goals as goal

pub returns-then-all-eq0-clause-drawn : goal.returns-then-all-eq0-clause-drawn
returns-then-all-eq0-clause-drawn c =
    let v = c.deref.ensures.value in
    rw (← c.self.view_is)
    (sym (all-drawn (room_of c.self.inside) c.args.member.now c.args.last c.args.own c.recount.new.self
    (rw v at c.recount.ensures.tallied) (rw v at c.recount.ensures.ready) c.from.result c.total.result c.total.ensures c.from.ensures)
    ∙ c.if-all-eq0.true)

pub returns-then-k-own-clause-drawn : goal.returns-then-k-own-clause-drawn
returns-then-k-own-clause-drawn c =
    let v = c.deref.ensures.value in
    rw (← c.self.view_is) (
      c.remainder-k.ensures
          ∙ ap (λ n. c.args.pick % n) (all-drawn (room_of c.self.inside) c.args.member.now c.args.last c.args.own c.recount.new.self
          (rw v at c.recount.ensures.tallied) (rw v at c.recount.ensures.ready) c.from.result c.total.result c.total.ensures
          c.from.ensures),
      c.if-k-own.true,
    )

pub ready_at-requires-clause-settings : goal.ready_at-requires-clause-settings
ready_at-requires-clause-settings c =
    let v = c.deref.ensures.value in
    let r = room_of c.self.inside in
    let l = falls-within r c.args.member.now c.args.last c.args.own c.recount.new.self (rw v at c.recount.ensures.tallied)
    (rw v at c.recount.ensures.ready) (c.remainder-k.result - c.args.own) c.in-Some.seat c.in-Some.into c.in-Some.ensures.falls in
    let at = slice_get_read r.ports (length r.ports) c.in-Some.seat c.index-port.result.now refl l c.index-port.ensures in
    (port-here r c.in-Some.seat c.index-port.result.now c.self.invariant.room at).in_settings
    ∙ (rw (← c.self.view_is) at c.requires.settings)

pub ready_at-requires-clause-own : goal.ready_at-requires-clause-own
ready_at-requires-clause-own c =
    let v = c.deref.ensures.value in
    let r = room_of c.self.inside in
    let l = falls-within r c.args.member.now c.args.last c.args.own c.recount.new.self (rw v at c.recount.ensures.tallied)
    (rw v at c.recount.ensures.ready) (c.remainder-k.result - c.args.own) c.in-Some.seat c.in-Some.into c.in-Some.ensures.falls in
    let at = slice_get_read r.ports (length r.ports) c.in-Some.seat c.index-port.result.now refl l c.index-port.ensures in
    (port-here r c.in-Some.seat c.index-port.result.now c.self.invariant.room at).in_own
    ∙ ap node_of (rw (← c.self.view_is) at c.requires.own)

pub unreachable-requires-in_default-ready_at : goal.unreachable-requires-in_default-ready_at
unreachable-requires-in_default-ready_at c =
    let v = c.deref.ensures.value in
    let r = room_of c.self.inside in
    let t : IsTallied r.ports c.recount.new.self = rw v at c.recount.ensures.tallied in
    let a : AreReady c.args.member.now c.args.last r.ports c.recount.new.self.ready = rw v at c.recount.ensures.ready in
    let k = c.remainder-k.result - c.args.own in
    let falls = c.in-Some.ensures.falls in
    let l = falls-within r c.args.member.now c.args.last c.args.own c.recount.new.self t a k c.in-Some.seat c.in-Some.into falls in
    let at = slice_get_read r.ports (length r.ports) c.in-Some.seat c.index-port.result.now refl l c.index-port.ensures in
    let b = falls-below r c.args.member.now c.args.last c.args.own c.recount.new.self t a k c.in-Some.seat c.in-Some.into falls
    c.index-port.result.now at in
    let n = c.in_default-ready_at.ensures.count in
    let p = c.in_default-ready_at.ensures.past in
    omega (arith, b, n, p)

pub returns-clause-drawn : goal.returns-clause-drawn
returns-clause-drawn c =
    let v = c.deref.ensures.value in
    let r = room_of c.self.inside in
    let m = c.args.member.now in
    let t : IsTallied r.ports c.recount.new.self = rw v at c.recount.ensures.tallied in
    let a : AreReady m c.args.last r.ports c.recount.new.self.ready = rw v at c.recount.ensures.ready in
    let k = c.remainder-k.result - c.args.own in
    let p = c.index-port.result.now in
    let falls = c.in-Some.ensures.falls in
    let l = falls-within r m c.args.last c.args.own c.recount.new.self t a k c.in-Some.seat c.in-Some.into falls in
    let at = slice_get_read r.ports (length r.ports) c.in-Some.seat p refl l c.index-port.ensures in
    let all = all-drawn r m c.args.last c.args.own c.recount.new.self t a c.from.result c.total.result c.total.ensures c.from.ensures in
    let picked : c.args.pick % draws_from r m c.args.last c.args.own ≡ c.args.own + k =
    ap (λ n. c.args.pick % n) (sym all) ∙ (let e = sym c.remainder-k.ensures in let o = c.if-k-own.false in omega (arith, e, o)) in
    rw (← c.self.view_is)
    (letter-drawn r m c.args.last c.args.own c.recount.new.self t a k c.in-Some.seat c.in-Some.into falls p
    (record { seat = c.in-Some.seat; src = c.peer.result; letter = c.in-Ok.letter })
    (c.args.pick % draws_from r m c.args.last c.args.own) at picked (ap node_of c.peer.ensures)
    (ap node_of (rw (← c.self.view_is) at c.requires.own))
    (record {
      waits = waiting-at r c.in-Some.seat p c.peer.result c.in-Ok.letter c.self.invariant.room at c.peer.ensures c.in-Ok.ensures.letter;
      early = c.in-Ok.ensures.early;
      may = rw c.peer.ensures c.in-Ok.ensures.may;
    }) c.in-Ok.ensures.kth)
