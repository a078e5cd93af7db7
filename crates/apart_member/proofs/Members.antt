-- Members after an event.
use Rattle.std.proofs.Common.{◌≡◌, ℕ, zero, suc, ◌+◌, ◌<◌, Bool, true, false, List, [], ◌∷◌, ◌++◌, length, Option}
use Rattle.std.proofs.Common.{if◌then◌else◌, refl, ap, sym, ◌∙◌, subst, arith}
use Rattle.std.specs.Prelude.{IfSome, slice_index_or}
use Rattle.std.specs.List.{All}
use Rattle.image_load.specs.Contents.{Contents, started}
use Rattle.image_load.specs.Start.{first_ram}
use Rattle.tcc_base.specs.Limits.{run_limit}
use Rattle.tcc_base.specs.declared.names.NodeId.{NodeId}
use Rattle.base_lemmas.proofs.Lemmas.{node_eq-refl}
use Rattle.rules_maps.specs.Bridge.{node_of}
use Rattle.rules_maps.specs.Nodes.{Node, Event, Msg, node_eq}
use Rattle.rules_maps.specs.Shape.{Shape}
use Rattle.tcc_msg.specs.Plain.{msg_of, sends_of}
use Rattle.tcc_msg.specs.declared.msg.Msg.{Msg as CodeMsg}
use Rattle.rules_tcc.specs.Step.{is_node}
use Rattle.theorem_apart.specs.Apart.{ActsInBounds, NodeInBounds}
use Rattle.theorem_apart.proofs.Lemmas.{next_few, riscv_nodes_stay}
use Rattle.rules_apart.specs.Carried.{IsCarried}
use Rattle.apart_member.specs.Acting.{Acts, ActsAs, HasNext, MayDo, PartMayDo}
use Rattle.apart_member.specs.Data.{MemberData, kind_state, node_at, state_of}
use Rattle.apart_member.specs.DataInside.{IsMember}
use Rattle.apart_member.specs.Placed.{IsPlaced}
use Rattle.apart_member.specs.declared.kind.MemberKind.{MemberKind}
use Rattle.apart_member.specs.declared.kind.MemberKind.TheVariants as kind

-- ---- before the event

has-next : (sh : Shape) (done : ℕ) (ram : ℕ → ℕ) (k : MemberKind) → done < run_limit
    → NodeInBounds sh done (node_of (node_at k)) (kind_state ram k) → HasNext k
has-next sh done ram (kind.Core id core) few b = tt
has-next sh done ram (kind.Directory id dir) few b = tt
has-next sh done ram (kind.Vendor next) few b = next_few sh done next few b

pub may-act : (m : MemberData) (k : Contents) (e : Event) (x : Option Msg) → k ≡ m.code → IsMember m → MayDo m e x
    → m.done < run_limit → PartMayDo k m.kind e x
unfolding state_of
may-act m k e x same w a few = subst (λ c. PartMayDo c m.kind e x) (sym same) (record {
  at = a.at ∙ ap node_of w.named;
  names = a.names;
  enabled = a.enabled;
  carried = a.carried;
  next = has-next m.code.settings m.done (first_ram (started m.code)) m.kind few
      (subst (λ n. NodeInBounds m.code.settings m.done (node_of n) (state_of m)) w.named w.bounded);
})

-- ---- after it

-- the same code and node, with what the node is now and how many events it has done
abbrev pub member_with : MemberData → MemberKind → ℕ → MemberData
member_with m k n = record { code = m.code; node = node_at k; done = n; kind = k }

-- the same as its parts have it, where the code is held by another name
pub same-state : (m : MemberData) (c : Contents) (k : MemberKind) (n : ℕ) → c ≡ m.code
    → kind_state (first_ram (started c)) k ≡ kind_state (first_ram (started c)) m.kind → state_of (member_with m k n) ≡ state_of m
unfolding state_of
same-state m c k n e h = subst (λ d. kind_state (first_ram (started d)) k ≡ kind_state (first_ram (started d)) m.kind) e h

pub acts-same : (m : MemberData) (c : Contents) (k : MemberKind) (n : ℕ) (e : Event) (x : Option Msg) (sent : List (NodeId × CodeMsg))
    (consumed : Bool) → c ≡ m.code
    → ActsAs c (kind_state (first_ram (started c)) m.kind) (kind_state (first_ram (started c)) k) e x sent consumed
    → ActsAs m.code (state_of m) (state_of (member_with m k n)) e x sent consumed
unfolding state_of
acts-same m c k n e x sent consumed same h =
    subst (λ d. ActsAs d (kind_state (first_ram (started d)) m.kind) (kind_state (first_ram (started d)) k) e x sent consumed) same h

pub placed-same : (m : MemberData) (c : Contents) (k : MemberKind) → c ≡ m.code → IsPlaced c.settings k → IsPlaced m.code.settings k
placed-same m c k e h = subst (λ d. IsPlaced d.settings k) e h

-- the state is as before
pub stays-whole : (m : MemberData) (k : MemberKind) → IsMember m → IsPlaced m.code.settings k → node_at k ≡ node_at m.kind
    → state_of (member_with m k m.done) ≡ state_of m → IsMember (member_with m k m.done)
stays-whole m k w placed node state =
    let same : node_at k ≡ m.node = node ∙ sym w.named in
    record {
      allowed = w.allowed;
      exists = ap (λ n. is_node m.code.settings (node_of n)) same ∙ w.exists;
      named = refl;
      placed = placed;
      bounded = subst (λ n. NodeInBounds m.code.settings m.done (node_of n) (state_of (member_with m k m.done))) (sym same)
          (subst (λ s. NodeInBounds m.code.settings m.done (node_of m.node) s) (sym state) w.bounded);
    }

-- what the rules leave of it and send from it is in bounds
acts-bounded : (m n : MemberData) (e : Event) (x : Option Msg) (sent : List (NodeId × CodeMsg)) (consumed : Bool) → IsMember m → MayDo m e x
    → m.done < run_limit → ActsAs m.code (state_of m) (state_of n) e x sent consumed
    → ActsInBounds m.code.settings (m.done + 1) (node_of m.node)
    (record { state = state_of n; sends = sends_of sent; consumes = consumed })
unfolding started
acts-bounded m n e x sent consumed w a few rule =
    subst (λ o. IfSome o (ActsInBounds m.code.settings (m.done + 1) (node_of m.node))) rule
    (riscv_nodes_stay (started m.code) w.allowed m.done (node_of m.node) (state_of m) e x few a.at a.names w.bounded a.carried)

pub acts-whole : (m : MemberData) (k : MemberKind) (e : Event) (x : Option Msg) (sent : List (NodeId × CodeMsg)) (consumed : Bool)
    → IsMember m → MayDo m e x → m.done < run_limit → IsPlaced m.code.settings k → node_at k ≡ node_at m.kind
    → ActsAs m.code (state_of m) (state_of (member_with m k (m.done + 1))) e x sent consumed → IsMember (member_with m k (m.done + 1))
acts-whole m k e x sent consumed w a few placed node rule =
    let same : node_at k ≡ m.node = node ∙ sym w.named in
    let n = member_with m k (m.done + 1) in
    record {
      allowed = w.allowed;
      exists = ap (λ n. is_node m.code.settings (node_of n)) same ∙ w.exists;
      named = refl;
      placed = placed;
      bounded = subst (λ i. NodeInBounds m.code.settings (m.done + 1) (node_of i) (state_of n)) (sym same)
          (acts-bounded m n e x sent consumed w a few rule).state;
    }

-- ---- what it sends

rest : {X : Type 0} (P : X → Type 0) (x : X) (xs : List X) → All P (x ∷ xs) → All P xs
rest P x xs h = λ k d l. h (suc k) d (omega (arith, l))

with-first : {X : Type 0} (P : X → Type 0) (x : X) (xs : List X) → P x → All P xs → All P (x ∷ xs)
with-first {X} P x xs p h = at
  where
    at : (k : ℕ) (d : X) → k < length (x ∷ xs) → P (slice_index_or (x ∷ xs) k d)
    at zero d l = p
    at (suc k) d l = h k d (omega (arith, l))

-- what holds of what goes to each node holds of each message sent
each-sent : (P : Node → Msg → Type 0) (xs : List (NodeId × CodeMsg)) → ((n : Node) → All (P n) (sends_of xs n))
    → All (λ m. P (node_of m.0) (msg_of m.1)) xs
unfolding sends_of
each-sent P [] h = λ k d l. absurd (omega (arith, l))
each-sent P (e ∷ xs) h = with-first (λ m. P (node_of m.0) (msg_of m.1)) e xs own (each-sent P xs others)
  where
    own : P (node_of e.0) (msg_of e.1)
    own = subst (λ b. All (P (node_of e.0)) ((if b then msg_of e.1 ∷ [] else []) ++ sends_of xs (node_of e.0))) (node_eq-refl (node_of e.0))
        (h (node_of e.0)) 0 (msg_of e.1) (omega arith)

    past : (n : Node) (b : Bool) → All (P n) ((if b then msg_of e.1 ∷ [] else []) ++ sends_of xs n) → All (P n) (sends_of xs n)
    past n true a = rest (P n) (msg_of e.1) (sends_of xs n) a
    past n false a = a

    others : (n : Node) → All (P n) (sends_of xs n)
    others n = past n (node_eq n (node_of e.0)) (h n)

pub acts-are : (m n : MemberData) (e : Event) (x : Option Msg) (sent : List (NodeId × CodeMsg)) (consumed : Bool) → IsMember m → MayDo m e x
    → m.done < run_limit → ActsAs m.code (state_of m) (state_of n) e x sent consumed → Acts m n e x sent consumed
acts-are m n e x sent consumed w a few rule = record {
  rule = rule;
  carried = each-sent (λ dst y. IsCarried m.code.settings (node_of m.node) dst y) sent
      (acts-bounded m n e x sent consumed w a few rule).sends;
}
