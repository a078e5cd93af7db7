-- What the tally of a node's ports says.
use Rattle.std.proofs.Common.{◌≡◌, ◌≢◌, ℕ, zero, suc, ◌+◌, ◌<◌, ◌^◌, Bool, true, false, not, List, length, take, sum}
use Rattle.std.proofs.Common.{Option, Some, None, max, refl, ap}
use Rattle.std.proofs.Common.{sym, subst, ◌∙◌, arith, inl, inr}
use Rattle.std.specs.Prelude.{All, nat_lt, is_some, replicate, slice_get, slice_index, slice_set}
use Rattle.std.proofs.lemmas.Bool.{and_from, cases_eq}
use Rattle.std.proofs.lemmas.Bool.Decides.{nat_tests}
use Rattle.std.proofs.lemmas.List.{length-map, length-replicate, length-set, take_all}
use Rattle.std.proofs.lemmas.Option.{same_Some}
use Rattle.base_lemmas.proofs.Lemmas.{and-both, get-set, get-set_other, read-set}
use Rattle.rules_maps.specs.Bridge.{node_of}
use Rattle.rules_maps.specs.Nodes.{Node}
use Rattle.tcc_msg.specs.Plain.{msg_of}
use Rattle.rules_tcc.specs.Local.{takes}
use Rattle.rules_apart.specs.Carried.{IsCarried}
use Rattle.rules_apart.specs.declared.logs.Mail.{Mail}
use Rattle.apart_member.specs.Always.{IsOfKind, never_waits}
use Rattle.apart_member.specs.Data.{MemberData, state_of}
use Rattle.apart_member.proofs.Lemmas.{always-taken}
use Rattle.apart_node.specs.Choice.{all_deliveries, deliveries, delivery, ready, ready_in}
use Rattle.apart_node.specs.Moves.{AtEach, Both}
use Rattle.apart_node.specs.Ports.{ArePorts, IsEntry, IsPort, IsUnused, PortData}
use Rattle.apart_node.specs.Tally.{AreReady, CountsPort, IsTallied, TallyData, hanging_in, hangs, noted}
use Rattle.apart_node.proofs.Picking.Counts.{filter-all, filter-none, read-set_other, sum-flat}
use Rattle.apart_node.proofs.Porting.ChangedElement.{each-length}
use Rattle.apart_node.proofs.Porting.Pools.{all-at}

-- a port has changed, and is noted
pub noted-tallied : (ports : List PortData) (t : TallyData) (k : ℕ) (q : PortData) → k < length ports → IsPort q → IsTallied ports t
    → IsTallied (slice_set ports k q) (noted t k q)
noted-tallied ports t k q l whole h = record {
  ready_count = length-set t.ready k (length q.pool) ∙ (h.ready_count ∙ sym (length-set ports k q));
  hanging_count = length-set t.hanging k (length (hanging_in q)) ∙ (h.hanging_count ∙ sym (length-set ports k q));
  each = λ j p e. elim (cases_eq j k) [
    | inl s ↦ here j p s e
    | inr o ↦ there j p o (sym (get-set_other ports k j q o) ∙ e)
  ];
}
  where
    ready_in_range : k < length t.ready
    ready_in_range = let c = h.ready_count in omega (arith, c, l)

    hanging_in_range : k < length t.hanging
    hanging_in_range = let c = h.hanging_count in omega (arith, c, l)

    here : (j : ℕ) (p : PortData) → j ≡ k → slice_get (slice_set ports k q) j ≡ Some p
        → CountsPort p (slice_index (noted t k q).ready j) (slice_index (noted t k q).hanging j)
    here j p s e =
        let same : q ≡ p = same_Some q p (sym (get-set ports k q l) ∙ (ap (slice_get (slice_set ports k q)) (sym s) ∙ e)) in
        rw (s, ← same) (record {
          port = whole;
          hanging_is = read-set t.hanging k (length (hanging_in q)) hanging_in_range;
          whole = λ z. read-set t.ready k (length q.pool) ready_in_range;
        })

    there : (j : ℕ) (p : PortData) → j ≢ k → slice_get ports j ≡ Some p
        → CountsPort p (slice_index (noted t k q).ready j) (slice_index (noted t k q).hanging j)
    there j p o e =
        rw (read-set_other t.ready k j (length q.pool) o, read-set_other t.hanging k j (length (hanging_in q)) o) (h.each j p e)

-- so it is where the port is read again for the note
pub noted-again : (ports : List PortData) (t : TallyData) (k : ℕ) (new q : PortData) → k < length ports → q ≡ new → IsPort q
    → IsTallied ports t → IsTallied (slice_set ports k new) (noted t k q)
noted-again ports t k new q l same whole h =
    subst (λ (x : PortData). IsTallied (slice_set ports k x) (noted t k q)) same (noted-tallied ports t k q l whole h)

-- what waits at a port, and where it came from, stays
pub record WaitsSame (p q : PortData) : Type 0 where
  pub inlet : q.inlet ≡ p.inlet
  pub pool : q.pool ≡ p.pool

port-same : (p q : PortData) (r h : ℕ) → WaitsSame p q → CountsPort p r h → CountsPort q r h
port-same p q r h w c = record {
  port = record { entries = rw (w.inlet, w.pool) c.port.entries; rise = rw w.pool c.port.rise };
  hanging_is = rw (w.inlet, w.pool) c.hanging_is;
  whole = λ z. rw w.pool (c.whole z);
}

pub same-tallied : (a b : List PortData) (t : TallyData) → AtEach WaitsSame a b → IsTallied a t → IsTallied b t
same-tallied a b t w h = record {
  ready_count = h.ready_count ∙ sym (each-length WaitsSame a b w);
  hanging_count = h.hanging_count ∙ sym (each-length WaitsSame a b w);
  each = λ k q e. at k q (slice_get a k) refl (rw e at (w k));
}
  where
    at : (k : ℕ) (q : PortData) (o : Option PortData) → slice_get a k ≡ o → Both WaitsSame (slice_get a k) (Some q)
        → CountsPort q (slice_index t.ready k) (slice_index t.hanging k)
    at k q None e x = absurd (rw e at x)
    at k q (Some p) e x = port-same p q (slice_index t.ready k) (slice_index t.hanging k) (rw e at x) (h.each k p e)

-- nothing waits
pub unused-tallied : (ports : List PortData) → All IsUnused ports
    → IsTallied ports (record { ready = replicate (length ports) 0; hanging = replicate (length ports) 0 })
unused-tallied ports u = record {
  ready_count = length-replicate (length ports) 0;
  hanging_count = length-replicate (length ports) 0;
  each = λ k p e.
      let none = (all-at IsUnused ports k p u e).pool in
      record {
        port = record { entries = rw none (λ i d l. absurd (omega (arith, l))); rise = rw none (λ i j d x l g h. absurd (cc)) };
        hanging_is = rw none (read-zeros (length ports) k);
        whole = λ z. rw none (read-zeros (length ports) k);
      };
}
  where
    read-zeros : (n k : ℕ) → slice_index (replicate n 0) k ≡ 0
    read-zeros zero k = refl
    read-zeros (suc n) zero = refl
    read-zeros (suc n) (suc k) = read-zeros n k

-- a port of which something hangs has been counted anew
pub recounted-tallied : (ports : List PortData) (t : TallyData) (k n : ℕ) → slice_index t.hanging k ≢ 0 → IsTallied ports t
    → IsTallied ports (record t { ready = slice_set t.ready k n })
recounted-tallied ports t k n some h = record {
  ready_count = length-set t.ready k n ∙ h.ready_count;
  hanging_count = h.hanging_count;
  each = λ j p e. elim (cases_eq j k) [
    | inl s ↦ (let c = h.each j p e in
        record { port = c.port; hanging_is = c.hanging_is; whole = λ z. absurd (some (ap (slice_index t.hanging) (sym s) ∙ z)) })
    | inr o ↦ rw (read-set_other t.ready k j n o) (h.each j p e)
  ];
}

-- ---- what needn't wait can be handled

not-false : (b : Bool) → not b ≡ false → b ≡ true
not-false true e = refl
not-false false e = absurd (cc)

early : (last stamp : ℕ) → last < 2 ^ 62 → nat_lt stamp (2 ^ 62) ≡ true → nat_lt (max last stamp) (2 ^ 62) ≡ true
early last stamp l e = grind (arith, nat_tests)

open-ready : (m : MemberData) (last : ℕ) (src : Node) (e : ℕ × Mail) → IsOfKind (node_of m.node) (state_of m) → last < 2 ^ 62
    → IsCarried m.code.settings src (node_of m.node) (msg_of e.1.msg) → hangs (node_of m.node) e ≡ false → ready m last src e ≡ true
unfolding hangs ready
open-ready m last src e k l c h =
    let both = and-both (nat_lt e.1.stamp (2 ^ 62)) (never_waits (node_of m.node) (msg_of e.1.msg)) (not-false _ h) in
    and_from (nat_lt (max last e.1.stamp) (2 ^ 62)) (is_some (takes m.code.settings (state_of m) src (Some (msg_of e.1.msg))))
    (early last e.1.stamp l both.0)
    (always-taken m.code.settings (node_of m.node) src (state_of m) (msg_of e.1.msg) k c both.1)

-- where nothing of a port may have to wait
pub all-ready : (m : MemberData) (last : ℕ) (p : PortData) → IsOfKind (node_of m.node) (state_of m) → last < 2 ^ 62 → IsPort p
    → p.inlet.ends.settings ≡ m.code.settings → node_of p.inlet.ends.dst ≡ node_of m.node → length (hanging_in p) ≡ 0
    → length (ready_in m last p) ≡ length p.pool
unfolding ready_in
all-ready m last p k l whole s own none =
    filter-all (ready m last (node_of p.inlet.ends.src)) p.pool (λ i e g.
    let x : IsEntry p.inlet e = all-at (IsEntry p.inlet) p.pool i e whole.entries g in
    let c : IsCarried m.code.settings (node_of p.inlet.ends.src) (node_of m.node) (msg_of e.1.msg) = rw (s, own) at x.carried in
    let free : hangs (node_of p.inlet.ends.dst) e ≡ false = filter-none (hangs (node_of p.inlet.ends.dst)) p.pool none i e g in
    let h : hangs (node_of m.node) e ≡ false = rw own at free in
    open-ready m last (node_of p.inlet.ends.src) e k l c h)

-- a port of which nothing hangs is counted
pub counted-open : (m : MemberData) (last : ℕ) (ports : List PortData) (t : TallyData) → IsTallied ports t
    → ArePorts m.code.settings (node_of m.node) ports → IsOfKind (node_of m.node) (state_of m) → last < 2 ^ 62
    → (k : ℕ) (p : PortData) → slice_get ports k ≡ Some p → slice_index t.hanging k ≡ 0
    → slice_index t.ready k ≡ length (ready_in m last p)
counted-open m last ports t h a kind l k p e z =
    let c = h.each k p e in
    let at = a.each k p e in
    c.whole z ∙ sym (all-ready m last p kind l c.port at.in_settings at.in_own (sym c.hanging_is ∙ z))

-- ---- one port after another

-- the first ports are counted
abbrev pub Recounted : MemberData → (last : ℕ) → List PortData → TallyData → (to : ℕ) → Type 0
Recounted m last ports t n =
    IsTallied ports t
    × ((k : ℕ) (p : PortData) → k < n → slice_get ports k ≡ Some p → slice_index t.ready k ≡ length (ready_in m last p))

-- one more, which hangs
pub recount-next : (m : MemberData) (last : ℕ) (ports : List PortData) (t : TallyData) (k n : ℕ) (q : PortData) → k < length ports
    → slice_get ports k ≡ Some q → slice_index t.hanging k ≢ 0 → n ≡ length (ready_in m last q) → Recounted m last ports t k
    → Recounted m last ports (record t { ready = slice_set t.ready k n }) (k + 1)
recount-next m last ports t k n q l e some is h = (
  recounted-tallied ports t k n some h.0,
  λ j p below g. elim (cases_eq j k) [
    | inl s ↦ (let at : slice_get ports k ≡ Some p = ap (slice_get ports) (sym s) ∙ g in
        let same : q ≡ p = same_Some q p (sym e ∙ at) in
        let c = h.0.ready_count in
        rw (s, ← same) (read-set t.ready k n (omega (arith, c, l)) ∙ is))
    | inr o ↦ read-set_other t.ready k j n o ∙ h.1 j p (omega (arith, below, o)) g
  ],
)

-- one more, of which nothing hangs
pub recount-open : (m : MemberData) (last : ℕ) (ports : List PortData) (t : TallyData) (k : ℕ)
    → ArePorts m.code.settings (node_of m.node) ports → IsOfKind (node_of m.node) (state_of m) → last < 2 ^ 62
    → slice_index t.hanging k ≡ 0 → Recounted m last ports t k → Recounted m last ports t (k + 1)
recount-open m last ports t k a kind l z h = (
  h.0,
  λ j p below g. elim (cases_eq j k) [
    | inl s ↦ counted-open m last ports t h.0 a kind l j p g (ap (slice_index t.hanging) s ∙ z)
    | inr o ↦ h.1 j p (omega (arith, below, o)) g
  ],
)

-- ---- sums

pub ready-sum_to : (m : MemberData) (last : ℕ) (ports : List PortData) (ns : List ℕ) → length ns ≡ length ports
    → AreReady m last ports ns → (i : ℕ) → sum (take i ns) ≡ length (all_deliveries m last (take i ports))
unfolding all_deliveries
ready-sum_to m last ports ns l h i =
    sum-flat (deliveries m last) ports ns l
    (λ k p e. h k p e ∙ sym (length-map (ready_in m last p) (delivery (node_of m.node) (node_of p.inlet.ends.src)))) i

pub ready-sum : (m : MemberData) (last : ℕ) (ports : List PortData) (ns : List ℕ) → length ns ≡ length ports
    → AreReady m last ports ns → sum ns ≡ length (all_deliveries m last ports)
ready-sum m last ports ns l h =
    ap sum (sym (take_all (length ports) ns (omega (arith, l))))
    ∙ (ready-sum_to m last ports ns l h (length ports)
    ∙ ap (λ ps. length (all_deliveries m last ps)) (take_all (length ports) ports (omega arith)))
