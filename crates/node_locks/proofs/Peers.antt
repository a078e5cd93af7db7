-- Which nodes are peers, and what stays of their links.
use Rattle.std.proofs.Common.{◌≡◌, ℕ, ◌+◌, ◌-◌, ◌<◌, ◌≤◌, Bool, true, false, cond, List, Option, Some, None, refl, ap, sym, ◌∙◌, subst}
use Rattle.std.proofs.Common.{arith, inl, inr}
use Rattle.std.specs.Prelude.{slice_get, slice_set, nat_lt, is_some, option_map}
use Rattle.std.proofs.lemmas.Bool.{cases_eq}
use Rattle.std.proofs.lemmas.Bool.Decides.{nat_tests}
use Rattle.std.proofs.lemmas.Option.{slice_get_within}
use Rattle.image_load.specs.Contents.{Contents}
use Rattle.tcc_base.specs.Settings.{Settings}
use Rattle.base_lemmas.proofs.Lemmas.{get-set, get-set_other, length-set}
use Rattle.rules_maps.specs.Bridge.{node_of}
use Rattle.rules_maps.specs.Nodes.{Core, Dir, Vendor}
use Rattle.apart_node.specs.Acts.{SameNode}
use Rattle.apart_node.specs.Linked.{IsLinkedTo}
use Rattle.apart_node.specs.Moves.{Both, Room, SameLinks}
use Rattle.apart_node.specs.Node.{NodeData, here}
use Rattle.apart_node.specs.Peers.{seat}
use Rattle.apart_node.specs.Ports.{PortData, RoomData, port_to}
use Rattle.node_locks.specs.Places.{nth_node}
use Rattle.node_locks.specs.Wiring.{AreNodes, IsOf, Wiring, are_peers, link_to, link_from}

-- a core's peers are the nodes behind the cores
pub core-peers : (s : Settings) (c k : ℕ) → c < s.cores → k ≤ s.dirs
    → (are_peers s (nth_node s c) (nth_node s (s.cores + k)) ≡ true) × (are_peers s (nth_node s (s.cores + k)) (nth_node s c) ≡ true)
unfolding seat
core-peers s c k h l =
    let core : nat_lt c s.cores ≡ true = grind (arith, nat_tests) in
    let past : nat_lt (s.cores + k) s.cores ≡ false = grind (arith, nat_tests) in
    rw (core, past) (go (nat_lt (s.cores + k) (s.cores + s.dirs)) refl)
  where
    go : (b : Bool) → nat_lt (s.cores + k) (s.cores + s.dirs) ≡ b
        → (are_peers s (Core c) (cond b (Dir (s.cores + k - s.cores)) Vendor) ≡ true)
        × (are_peers s (cond b (Dir (s.cores + k - s.cores)) Vendor) (Core c) ≡ true)
    go true e =
        let core : nat_lt c s.cores ≡ true = grind (arith, nat_tests) in
        let dir : nat_lt (s.cores + k - s.cores) s.dirs ≡ true = grind (arith, nat_tests) in
        (rw dir refl, rw core refl)
    go false e =
        let core : nat_lt c s.cores ≡ true = grind (arith, nat_tests) in
        (refl, rw core refl)

record Kept (o' : Option PortData) (x : PortData) : Type 0 where
  pub now : PortData
  pub is : o' ≡ Some now
  pub same : SameLinks x now

kept : (o o' : Option PortData) (x : PortData) → Both SameLinks o o' → o ≡ Some x → Kept o' x
kept None o' x b e = absurd (cc)
kept (Some p) None x b e = absurd b
kept (Some p) (Some q) x b e =
    let same : p ≡ x = cc in
    record { now = q; is = refl; same = subst (λ y. SameLinks y q) same b }

-- two nodes with the same links as before are linked as before
pub linked-kept : (a a' b b' : RoomData) → Room (λ peer. SameLinks) a a' → Room (λ peer. SameLinks) b b' → IsLinkedTo a b → IsLinkedTo a' b'
linked-kept a a' b b' p q l =
    let there = kept (port_to a (node_of b.own)) (port_to a' (node_of b.own)) l.there (p.ports (node_of b.own)) l.to in
    let back = kept (port_to b (node_of a.own)) (port_to b' (node_of a.own)) l.back (q.ports (node_of a.own)) l.from in
    record {
      there = there.now;
      back = back.now;
      to = rw q.own there.is;
      from = rw p.own back.is;
      link = back.same.in_link ∙ l.link ∙ sym there.same.out_link;
    }

room-same : (r : RoomData) → Room (λ peer. SameLinks) r r
room-same r = record { settings = refl; own = refl; ports = λ peer. go (port_to r peer) }
  where
    go : (o : Option PortData) → Both SameLinks o o
    go None = tt
    go (Some p) = record { out_link = refl; out_ends = refl; in_link = refl; in_ends = refl }

pub node-same : (n : NodeData) → SameNode n n
node-same n = record { code = refl; node = refl; links = room-same n.room }

-- what stands at a place of the nodes was there before, but for what changed and isn't its links
record Was (nodes : List NodeData) (j : ℕ) (z : NodeData) : Type 0 where
  pub before : NodeData
  pub got : slice_get nodes j ≡ Some before
  pub same : SameNode before z

was : (nodes : List NodeData) (i : ℕ) (a b : NodeData) → slice_get nodes i ≡ Some a → SameNode a b → (j : ℕ) (z : NodeData)
    → slice_get (slice_set nodes i b) j ≡ Some z → Was nodes j z
was nodes i a b got same j z e = elim (cases_eq j i) [
  | inl q ↦ (let now : Some b ≡ Some z = sym (get-set nodes i b (slice_get_within nodes i a got)) ∙ rw q at e in
      let is : b ≡ z = cc in
      record { before = a; got = rw q got; same = subst (λ x. SameNode a x) is same })
  | inr n ↦ record { before = z; got = sym (get-set_other nodes i j b n) ∙ e; same = node-same z }
]

-- a node that stays the same but for its state and what is on its links
pub are-kept : (code : Contents) (nodes : List NodeData) (i : ℕ) (a b : NodeData) → AreNodes code nodes → slice_get nodes i ≡ Some a
    → SameNode a b
    → AreNodes code (slice_set nodes i b)
are-kept code nodes i a b are got same = record {
  count = length-set nodes i b ∙ are.count;
  placed = λ j z e.
      let w = was nodes i a b got same j z e in
      let p = are.placed j w.before w.got in
      record { runs = w.same.code ∙ p.runs; node = ap node_of w.same.node ∙ p.node };
  wired = λ j k y z e f h.
      let v = was nodes i a b got same j y e in
      let w = was nodes i a b got same k z f in
      linked-kept v.before.room y.room w.before.room z.room v.same.links w.same.links
      (are.wired j k v.before w.before v.got w.got
      (subst (λ n. are_peers code.settings (node_of v.before.member.node) (node_of n) ≡ true) w.same.node
      (subst (λ n. are_peers code.settings (node_of n) (node_of z.member.node) ≡ true) v.same.node h)));
}

out-same : (o o' : Option PortData) → Both SameLinks o o' → option_map (λ p. p.outlet.link) o' ≡ option_map (λ p. p.outlet.link) o
out-same None None b = refl
out-same None (Some q) b = absurd b
out-same (Some p) None b = absurd b
out-same (Some p) (Some q) b = ap Some b.out_link

back-same : (o o' : Option PortData) → Both SameLinks o o' → option_map (λ p. p.inlet.link) o' ≡ option_map (λ p. p.inlet.link) o
back-same None None b = refl
back-same None (Some q) b = absurd b
back-same (Some p) None b = absurd b
back-same (Some p) (Some q) b = ap Some b.in_link

some-same : (o o' : Option PortData) → Both SameLinks o o' → is_some o' ≡ is_some o
some-same None None b = refl
some-same None (Some q) b = absurd b
some-same (Some p) None b = absurd b
some-same (Some p) (Some q) b = refl

pub of-kept : (code : Contents) (link : Wiring) (a b : NodeData) → IsOf code link a → SameNode a b → IsOf code link b
unfolding link_to link_from
of-kept code link a b is same =
    let at : here b ≡ here a = ap node_of same.node in
    record {
      runs = same.code ∙ is.runs;
      joined = λ peer h. some-same (port_to a.room peer) (port_to b.room peer) (same.links.ports peer)
          ∙ is.joined peer (subst (λ n. are_peers code.settings n peer ≡ true) at h);
      out = λ peer h. out-same (port_to a.room peer) (port_to b.room peer) (same.links.ports peer)
          ∙ is.out peer (subst (λ n. are_peers code.settings n peer ≡ true) at h) ∙ ap (λ n. link n peer) (sym at);
      back = λ peer h. back-same (port_to a.room peer) (port_to b.room peer) (same.links.ports peer)
          ∙ is.back peer (subst (λ n. are_peers code.settings n peer ≡ true) at h) ∙ ap (λ n. link peer n) (sym at);
    }
