-- A message is taken out of the pool.
use Rattle.std.proofs.Common.{◌≡◌, ◌+◌, length, map, ap, arith}
use Rattle.std.specs.List.{filter, remove}
use Rattle.rules_maps.specs.Bridge.{node_of}
use Rattle.apart_node.specs.PortInside.{entry_of, port_of}
use Rattle.apart_node.specs.Tally.{hangs}
use Rattle.apart_node.proofs.Picking.Counts.{counted-remove, remove-few}
use Rattle.apart_node.proofs.Porting.Named.{entries-remove, names-remove}
use Rattle.apart_node.proofs.Porting.Pools.{port-remove, remove-filter}
use Rattle.apart_node.proofs.port.Port.drop_letter.Goals as goal

-- what hangs without this one
hangs-left : (c : goal.After-hangs) → c.self.inside.hanging
    ≡ length (filter (hangs (node_of c.self.inside.inlet.ends.dst))
    (remove (map entry_of c.self.inside.pool.messages) c.args.letter.now.place))
    + c.hangs.result
hangs-left c =
    let l = c.args.letter.now in
    let h = rw (← c.self.view_is) at c.requires.entry in
    counted-remove (hangs (node_of c.self.inside.inlet.ends.dst)) (map entry_of c.self.inside.pool.messages) l.place (l.number, l.mail)
    c.self.inside.hanging c.hangs.result h c.self.invariant.hanging (rw c.self.invariant.own at c.hangs.ensures l.number)

pub invariant_of-self : goal.invariant_of-self
invariant_of-self c =
    let ms = c.self.inside.pool.messages in
    let k = c.args.letter.now.place in
    record {
      own = c.self.invariant.own;
      peer = c.self.invariant.peer;
      taken = c.self.invariant.taken;
      names = rw c.remove_at.ensures.order (names-remove c.self.inside.peer c.self.inside.own ms k c.self.invariant.names);
      port = rw (c.remove_at.ensures.order, entries-remove ms k) (port-remove (port_of c.self.inside) k c.self.invariant.port);
      few = rw c.remove_at.ensures.order (let l = remove-few ms k in let f = c.self.invariant.few in omega (arith, l, f));
      hanging = rw (c.remove_at.ensures.order, entries-remove ms k) (let left = hangs-left c.before in omega (arith, left));
    }

pub overflow_sub-self : goal.overflow_sub-self
overflow_sub-self c = let left = hangs-left c in omega (arith, left)

pub returns : goal.returns
returns c =
    let ms = c.self.inside.pool.messages in
    let l = c.args.letter.now in
    let h = rw (← c.self.view_is) at c.requires.entry in
    rw (← c.self.view_is, c.remove_at.ensures.order, entries-remove ms l.place)
    (ap (λ es. record (port_of c.self.inside) { pool = es })
    (remove-filter (map entry_of ms) l.place l.number l.mail c.self.invariant.port.rise h))
