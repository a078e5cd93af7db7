-- One more message is taken from the link.
use Rattle.std.proofs.Common.{map, refl, arith}
use Rattle.std.proofs.lemmas.List.{length-map, length_push}
use Rattle.std.proofs.lemmas.List.Elements.{All-push}
use Rattle.base_lemmas.proofs.Lemmas.{filter-few}
use Rattle.tcc_msg.specs.declared.event.Name.{Name}
use Rattle.rules_maps.specs.Bridge.{node_of}
use Rattle.apart_node.specs.PortInside.{IsNamed, entry_of, port_of}
use Rattle.apart_node.specs.Tally.{hangs}
use Rattle.apart_node.proofs.Picking.Counts.{counted-push, one-at-most}
use Rattle.apart_node.proofs.Porting.Named.{entries-push, held-above}
use Rattle.apart_node.proofs.Porting.Pools.{below-got, port-push}
use Rattle.apart_node.proofs.Porting.SeveralMoves.{takes-push, takes-refl, takes-same}
use Rattle.apart_node.proofs.port.Port.take_in.Goals as goal

pub returns-then-self : goal.returns-then-self
returns-then-self g c = takes-refl _

pub returns-in_err-reserve : goal.returns-in_err-reserve
returns-in_err-reserve g c = takes-same _ _ (rw c.reserve.ensures.keeps c.self.view_is)

pub returns-in_default : goal.returns-in_default
returns-in_default g c = takes-same _ _ (rw (c.in_default.ensures.none, c.reserve.ensures.keeps) c.self.view_is)

pub add_reserved-requires-clause-new : goal.add_reserved-requires-clause-new
add_reserved-requires-clause-new g c =
    let ms = c.self.inside.pool.messages in
    let n : Name = record { src = c.self.inside.peer; dst = c.self.inside.own; seq = c.self.inside.taken } in
    rw c.reserve.ensures.keeps (held-above ms n (λ k e h.
    let b = below-got c.self.inside.inlet (map entry_of ms) k e c.self.invariant.port.entries h in
    omega (arith, b, c.self.invariant.taken)))

pub invariant_of-self-2 : goal.invariant_of-self-2
invariant_of-self-2 g c =
    let i = c.self.invariant in
    let ms = c.self.inside.pool.messages in
    let n : Name = record { src = c.self.inside.peer; dst = c.self.inside.own; seq = c.self.inside.taken } in
    record {
      own = rw c.in-Some.ensures.taken i.own;
      peer = rw c.in-Some.ensures.taken i.peer;
      taken = rw c.in-Some.ensures.taken (omega (arith, i.taken, length_push c.self.inside.inlet.got c.in-Some.mail));
      names = rw (c.add_reserved.ensures.order, c.reserve.ensures.keeps)
          (All-push (IsNamed c.self.inside.peer c.self.inside.own) ms (n, c.in-Some.mail) i.names (record { src = refl; dst = refl }));
      port = rw (c.in-Some.ensures.taken, c.add_reserved.ensures.order, c.reserve.ensures.keeps, entries-push ms n c.in-Some.mail)
          (port-push (port_of c.self.inside) c.in-Some.mail c.self.inside.taken i.taken c.in-Some.ensures.carried i.port);
      few = rw (c.add_reserved.ensures.order, c.reserve.ensures.keeps)
          (omega (arith, c.len.ensures, c.if-len-ge-MOST.false, length_push ms (n, c.in-Some.mail)));
      hanging = rw (c.in-Some.ensures.taken, c.add_reserved.ensures.order, c.reserve.ensures.keeps, entries-push ms n c.in-Some.mail)
          (counted-push (hangs (node_of c.self.inside.inlet.ends.dst)) (map entry_of ms) (c.self.inside.taken, c.in-Some.mail)
          c.self.inside.hanging c.hangs.result i.hanging (rw i.own at c.hangs.ensures c.self.inside.taken));
    }

pub overflow_add-self-2 : goal.overflow_add-self-2
overflow_add-self-2 g c =
    let i = c.self.invariant in
    let all = map entry_of c.self.inside.pool.messages in
    let f = hangs (node_of c.self.inside.inlet.ends.dst) in
    let one = one-at-most (f (c.self.inside.taken, c.in-Some.mail)) in
    let is = rw i.own at c.hangs.ensures c.self.inside.taken in
    let count = length-map c.self.inside.pool.messages entry_of in
    omega (arith, c.len.ensures, c.if-len-ge-MOST.false, i.hanging, filter-few f all, count, one, is)

pub returns : goal.returns
returns g c =
    let ms = c.self.inside.pool.messages in
    let n : Name = record { src = c.self.inside.peer; dst = c.self.inside.own; seq = c.self.inside.taken } in
    rw (← c.self.view_is, c.in-Some.ensures.taken, c.add_reserved.ensures.order, c.reserve.ensures.keeps, entries-push ms n c.in-Some.mail)
    (takes-push (port_of c.self.inside) c.in-Some.mail c.self.inside.taken c.self.invariant.taken)
