-- The wiring of nodes, and the nodes of a wiring.
use Rattle.std.proofs.Common.{◌≡◌, ℕ, zero, suc, ◌+◌, ◌-◌, ◌<◌, Bool, true, false, cond, List, ◌∷◌, [], length, Option, Some, None, refl}
use Rattle.std.proofs.Common.{ap, sym, ◌∙◌, subst, arith}
use Rattle.std.specs.Prelude.{slice_get, nat_lt, is_some, option_map}
use Rattle.std.proofs.lemmas.Bool.Decides.{nat_tests}
use Rattle.std.proofs.lemmas.Option.{slice_get_within}
use Rattle.image_load.specs.Contents.{Contents}
use Rattle.tcc_base.specs.Settings.{Settings}
use Rattle.rules_maps.specs.Bridge.{node_of}
use Rattle.rules_maps.specs.Nodes.{Node, Core, Dir, Vendor}
use Rattle.rules_tcc.specs.Step.{is_node}
use Rattle.rules_apart.specs.Fitting.{place, node_count}
use Rattle.apart_node.specs.Linked.{IsLinkedTo}
use Rattle.apart_node.specs.Node.{NodeData, here}
use Rattle.apart_node.specs.Peers.{seat}
use Rattle.apart_node.specs.Ports.{PortData, RoomData, port_to}
use Rattle.node_locks.specs.Hearing.{AllAreNodes}
use Rattle.node_locks.specs.Places.{nth_node}
use Rattle.node_locks.specs.Wiring.{AreNodes, AreOf, NodesData, Wiring, are_peers, link_of, link_to, link_from, links_of}
use Rattle.node_locks.proofs.Fits.Sides.{at-place, place-within}

nth-is_node : (s : Settings) (i : ℕ) → i < node_count s → is_node s (nth_node s i) ≡ true
nth-is_node s i h = go (nat_lt i s.cores) refl (nat_lt i (s.cores + s.dirs)) refl
  where
    go : (b : Bool) → nat_lt i s.cores ≡ b → (c : Bool) → nat_lt i (s.cores + s.dirs) ≡ c
        → is_node s (cond b (Core i) (cond c (Dir (i - s.cores)) Vendor)) ≡ true
    go true e c f = e
    go false e true f = grind (arith, nat_tests)
    go false e false f = refl

place-nth : (s : Settings) (i : ℕ) → i < node_count s → place s (nth_node s i) ≡ i
place-nth s i h = go (nat_lt i s.cores) refl (nat_lt i (s.cores + s.dirs)) refl
  where
    go : (b : Bool) → nat_lt i s.cores ≡ b → (c : Bool) → nat_lt i (s.cores + s.dirs) ≡ c
        → place s (cond b (Core i) (cond c (Dir (i - s.cores)) Vendor)) ≡ i
    go true e c f = refl
    go false e true f = grind (arith, nat_tests)
    go false e false f = grind (arith, nat_tests)

below-some : (n i : ℕ) → is_some (cond (nat_lt i n) (Some i) None) ≡ true → nat_lt i n ≡ true
below-some n i h = go (nat_lt i n) h
  where
    go : (b : Bool) → is_some (cond b (Some i) None) ≡ true → b ≡ true
    go true h = refl
    go false h = absurd (cc)

-- a peer is a node of the machine
peer-is_node : (s : Settings) (a b : Node) → are_peers s a b ≡ true → is_node s b ≡ true
unfolding seat
peer-is_node s (Core c) (Dir d) h = below-some s.dirs d h
peer-is_node s (Core c) Vendor h = refl
peer-is_node s (Dir d) (Core c) h = below-some s.cores c h
peer-is_node s Vendor (Core c) h = below-some s.cores c h
peer-is_node s (Core c) (Core b) h = absurd (cc)
peer-is_node s (Dir d) (Dir b) h = absurd (cc)
peer-is_node s (Dir d) Vendor h = absurd (cc)
peer-is_node s Vendor (Dir b) h = absurd (cc)
peer-is_node s Vendor Vendor h = absurd (cc)

-- so it is the other way round
peers-back : (s : Settings) (a b : Node) → is_node s a ≡ true → are_peers s a b ≡ true → are_peers s b a ≡ true
unfolding seat
peers-back s (Core c) (Dir d) n h = rw n refl
peers-back s (Core c) Vendor n h = rw n refl
peers-back s (Dir d) (Core c) n h = rw n refl
peers-back s Vendor (Core c) n h = refl
peers-back s (Core c) (Core b) n h = absurd (cc)
peers-back s (Dir d) (Dir b) n h = absurd (cc)
peers-back s (Dir d) Vendor n h = absurd (cc)
peers-back s Vendor (Dir b) n h = absurd (cc)
peers-back s Vendor Vendor n h = absurd (cc)

some-linked : (a b : RoomData) (o q : Option PortData) → port_to a (node_of b.own) ≡ o → port_to b (node_of a.own) ≡ q
    → is_some o ≡ true → is_some q ≡ true → option_map (λ p. p.outlet.link) o ≡ option_map (λ p. p.inlet.link) q → IsLinkedTo a b
some-linked a b None q e f g h l = absurd (cc)
some-linked a b (Some p) None e f g h l = absurd (cc)
some-linked a b (Some p) (Some r) e f g h l =
    let same : p.outlet.link ≡ r.inlet.link = cc in
    record { there = p; back = r; to = e; from = f; link = sym same }

linked-link : (a b : RoomData) → IsLinkedTo a b
    → option_map (λ p. p.inlet.link) (port_to b (node_of a.own)) ≡ option_map (λ p. p.outlet.link) (port_to a (node_of b.own))
linked-link a b l = rw (l.to, l.from) (ap Some l.link)

-- nodes of one program and one wiring, each at its place, are the nodes of a machine
pub are-all : (code : Contents) (link : Wiring) (nodes : List NodeData) → length nodes ≡ node_count code.settings → AreOf code link nodes
    → ((i : ℕ) (n : NodeData) → slice_get nodes i ≡ Some n → here n ≡ nth_node code.settings i) → AllAreNodes nodes → AreNodes code nodes
unfolding link_to link_from
are-all code link nodes count are at each = record {
  count = count;
  placed = λ i n e. record { runs = (are i n e).runs; node = at i n e };
  wired = λ i j a b e f h.
      let of_a = are i a e in
      let of_b = are j b f in
      let within : i < node_count code.settings = subst (λ n. i < n) count (slice_get_within nodes i a e) in
      let is : is_node code.settings (here a) ≡ true = rw (at i a e) (nth-is_node code.settings i within) in
      let h-back = peers-back code.settings (here a) (here b) is h in
      let own_a : node_of a.room.own ≡ here a = ap node_of (each i a e).own in
      let own_b : node_of b.room.own ≡ here b = ap node_of (each j b f).own in
      some-linked a.room b.room (port_to a.room (here b)) (port_to b.room (here a)) (ap (port_to a.room) own_b) (ap (port_to b.room) own_a)
      (of_a.joined (here b) h) (of_b.joined (here a) h-back) (of_a.out (here b) h ∙ sym (of_b.back (here a) h-back));
}

record Peer (a : NodesData) (peer : Node) : Type 0 where
  pub node : NodeData
  pub got : slice_get a.nodes (place a.code.settings peer) ≡ Some node
  pub is : here node ≡ peer
  pub own : node_of node.room.own ≡ peer

get-within : (xs : List NodeData) (k : ℕ) → k < length xs → (x : NodeData) × (slice_get xs k ≡ Some x)
get-within [] k h = absurd (omega (arith, h))
get-within (y ∷ xs) zero h = (y, refl)
get-within (y ∷ xs) (suc k) h = get-within xs k (omega (arith, h))

peer-of : (a : NodesData) → AreNodes a.code a.nodes → AllAreNodes a.nodes → (peer : Node) → is_node a.code.settings peer ≡ true
    → Peer a peer
peer-of a are each peer h =
    let f = get-within a.nodes (place a.code.settings peer) (rw are.count (place-within a.code.settings peer h)) in
    let is : here f.0 ≡ peer = (are.placed (place a.code.settings peer) f.0 f.1).node ∙ at-place a.code.settings peer h in
    record { node = f.0; got = f.1; is = is; own = ap node_of (each (place a.code.settings peer) f.0 f.1).own ∙ is }

some-is : (o : Option PortData) (p : PortData) → o ≡ Some p → is_some o ≡ true
some-is None p e = absurd (cc)
some-is (Some q) p e = refl

-- the nodes of a machine are of its wiring
pub are-wired : (a : NodesData) → AreNodes a.code a.nodes → AllAreNodes a.nodes → AreOf a.code (links_of a) a.nodes
unfolding links_of link_to link_from
are-wired a are each i n e =
    let s = a.code.settings in
    let within : i < node_count s = subst (λ m. i < m) are.count (slice_get_within a.nodes i n e) in
    let placed = are.placed i n e in
    let is : is_node s (here n) ≡ true = rw placed.node (nth-is_node s i within) in
    let own : node_of n.room.own ≡ here n = ap node_of (each i n e).own in
    let at : place s (here n) ≡ i = ap (place s) placed.node ∙ place-nth s i within in
    record {
      runs = placed.runs;
      joined = λ peer h.
          let p = peer-of a are each peer (peer-is_node s (here n) peer h) in
          let l = are.wired i (place s peer) n p.node e p.got (subst (λ m. are_peers s (here n) m ≡ true) (sym p.is) h) in
          some-is (port_to n.room peer) l.there (ap (port_to n.room) (sym p.own) ∙ l.to);
      out = λ peer h. sym (ap (λ o. link_of o peer) (ap (slice_get a.nodes) at ∙ e));
      back = λ peer h.
          let p = peer-of a are each peer (peer-is_node s (here n) peer h) in
          let h-back = subst (λ m. are_peers s m (here n) ≡ true) (sym p.is) (peers-back s (here n) peer is h) in
          let l = linked-link p.node.room n.room (are.wired (place s peer) i p.node n p.got e h-back) in
          ap (λ m. option_map (λ q. q.inlet.link) (port_to n.room m)) (sym p.own) ∙ l
          ∙ ap (λ m. option_map (λ q. q.outlet.link) (port_to p.node.room m)) own ∙ sym (ap (λ o. link_of o (here n)) p.got);
    }
