-- What was sent goes to nodes that exist. So what is added up message by message comes out the same by destination and in any order.
use Rattle.std.proofs.Common.{◌≡◌, ℕ, zero, suc, ◌+◌, ◌<◌, ◌≤◌, inl, inr, Bool, true, false, List, [], ◌∷◌, ◌++◌, length, map, get_or}
use Rattle.std.proofs.Common.{None, Some, refl, ap, sym, ◌∙◌, arith}
use Rattle.std.specs.Prelude.{All, slice_index_or}
use Rattle.std.specs.List.{flat_map, fold}
use Rattle.std.proofs.lemmas.Bool.{cases_eq}
use Rattle.std.proofs.lemmas.List.Elements.{All-head, All-tail}
use Rattle.std.proofs.lemmas.List.Sums.{fold-append}
use Rattle.tcc_base.specs.declared.names.NodeId.{NodeId}
use Rattle.base_lemmas.proofs.Lemmas.{node_eq-refl}
use Rattle.rules_maps.specs.Bridge.{node_of}
use Rattle.rules_maps.specs.Nodes.{Node, Msg as PlainMsg, node_eq}
use Rattle.rules_maps.specs.Shape.{Shape}
use Rattle.tcc_msg.specs.Plain.{msg_of, sends_of}
use Rattle.tcc_msg.specs.declared.msg.Msg.{Msg}
use Rattle.rules_tcc.specs.Links.{sent_all}
use Rattle.rules_tcc.specs.State.{Link}
use Rattle.rules_tcc.specs.Step.{is_node}
use Rattle.rules_tcc.specs.Useful.{nodes}
use Rattle.net_core.specs.Whole.{IsSound}
use Rattle.net_core.specs.Answers.{IsSent, StandBehind}
use Rattle.net_core.specs.Machine.{Machine, settings_of, world_of}
use Rattle.watch_machine.specs.Rising.{place_of}
use Rattle.watch_machine.proofs.Enabled.{flying-ends}
use Rattle.watch_machine.proofs.Numbering.{goes, nothing-goes, stays}
use Rattle.watch_machine.proofs.Rising.{Placed, nodes-placed, one-place, past, place-below, two-nodes}
use Rattle.net_core.proofs.Lemmas.{nodes-length}

-- ---- the nodes exist

-- a message of the list goes to its node
some-sent : (ms : List (NodeId × Msg)) (k : ℕ) (d : NodeId × Msg) → k < length ms → 0 < length (sends_of ms (node_of (get_or ms k d).0))
some-sent [] k d l = absurd (omega arith)
some-sent (x ∷ xs) zero d l =
    let one = ap length (goes x xs (node_of x.0) (node_eq-refl (node_of x.0))) in omega (arith, one)
some-sent (x ∷ xs) (suc k) d l = go (node_eq (node_of (get_or xs k d).0) (node_of x.0)) refl (some-sent xs k d (omega arith))
  where
    go : (b : Bool) → node_eq (node_of (get_or xs k d).0) (node_of x.0) ≡ b → 0 < length (sends_of xs (node_of (get_or xs k d).0))
        → 0 < length (sends_of (x ∷ xs) (node_of (get_or xs k d).0))
    go true e r = let one = ap length (goes x xs (node_of (get_or xs k d).0) e) in omega (arith, one)
    go false e r = let same = ap length (stays x xs (node_of (get_or xs k d).0) e) in omega (arith, same, r)

seam : (front : Link) (x : PlainMsg) (rest : Link) → slice_index_or (front ++ Some x ∷ rest) (length front) None ≡ Some x
seam [] x rest = refl
seam (y ∷ front) x rest = seam front x rest

end-exists : (m n : Machine) (src dst : Node) (ms : List PlainMsg) → IsSound n → StandBehind (world_of m) (world_of n) src dst ms
    → 0 < length ms → is_node (settings_of n) dst ≡ true
unfolding sent_all
end-exists m n src dst [] live b l = absurd (omega (arith, l))
end-exists m n src dst (x ∷ xs) live b l =
    (flying-ends n src dst (length b.front) x live
    (ap (λ ys. slice_index_or ys (length b.front) None) b.behind ∙ seam b.front x (sent_all xs))).to

pub ends-exist : (m n : Machine) (src : Node) → IsSound n → IsSent (world_of m) (world_of n) src (sends_of n.last)
    → All (λ x. is_node (settings_of n) (node_of x.0) ≡ true) n.last
ends-exist m n src live s = λ k d l.
    let dst = node_of (get_or n.last k d).0 in
    end-exists m n src dst (sends_of n.last dst) live (s dst) (some-sent n.last k d l)

-- ---- in any order

-- two messages may be added in either order
abbrev pub MayChange : {C : Type 0} → (C → PlainMsg → C) → Type 0
MayChange {C} f = (c : C) (x y : PlainMsg) → f (f c x) y ≡ f (f c y) x

-- first or last
first-or-last : {C : Type 0} (f : C → PlainMsg → C) → MayChange f → (c : C) (x : PlainMsg) (ms : List PlainMsg)
    → fold f (f c x) ms ≡ f (fold f c ms) x
first-or-last f both c x [] = refl
first-or-last f both c x (y ∷ ys) = ap (λ b. fold f b ys) (both c x y) ∙ first-or-last f both (f c y) x ys

-- a message goes to no node behind its own
not-there : (sh : Shape) (j : ℕ) (ns : List Node) (x : NodeId × Msg) (xs : List (NodeId × Msg)) → Placed sh j ns
    → place_of sh (node_of x.0) < j → flat_map (sends_of (x ∷ xs)) ns ≡ flat_map (sends_of xs) ns
unfolding Placed
not-there sh j [] x xs p l = refl
not-there sh j (n ∷ ns) x xs p l =
    λ i. stays x xs n (two-nodes sh n (node_of x.0) (λ e. omega (arith, e, p.0.0, l))) i
    ++ not-there sh (j + 1) ns x xs p.1 (omega (arith, l)) i

-- it is added at its node, wherever that stands
at-its-node : {C : Type 0} (f : C → PlainMsg → C) → MayChange f → (sh : Shape) (k : ℕ) (ns : List Node) (x : NodeId × Msg)
    (xs : List (NodeId × Msg)) → Placed sh k ns → is_node sh (node_of x.0) ≡ true → k ≤ place_of sh (node_of x.0)
    → place_of sh (node_of x.0) < k + length ns → (c : C)
    → fold f c (flat_map (sends_of (x ∷ xs)) ns) ≡ fold f (f c (msg_of x.1)) (flat_map (sends_of xs) ns)
unfolding Placed
at-its-node f both sh k [] x xs p e g l c = absurd (omega (arith, g, l))
at-its-node f both sh k (n ∷ ns) x xs p e g l c = elim (cases_eq (place_of sh (node_of x.0)) k) [
  | inl q ↦
      let is : n ≡ node_of x.0 = one-place sh n (node_of x.0) p.0.1 e (p.0.0 ∙ sym q) in
      let here : node_eq n (node_of x.0) ≡ true = ap (node_eq n) (sym is) ∙ node_eq-refl n in
      λ i. fold f c (goes x xs n here i ++ not-there sh (k + 1) ns x xs p.1 (omega (arith, q)) i)
  | inr q ↦
      let away : node_eq n (node_of x.0) ≡ false = two-nodes sh n (node_of x.0) (λ h. q (sym h ∙ p.0.0)) in
      let here = sends_of xs n in
      ap (λ ys. fold f c (ys ++ flat_map (sends_of (x ∷ xs)) ns)) (stays x xs n away)
      ∙ fold-append f c here (flat_map (sends_of (x ∷ xs)) ns)
      ∙ at-its-node f both sh (k + 1) ns x xs p.1 e (past k (place_of sh (node_of x.0)) g q) (omega (arith, l)) (fold f c here)
      ∙ ap (λ b. fold f b (flat_map (sends_of xs) ns)) (sym (first-or-last f both c (msg_of x.1) here))
      ∙ sym (fold-append f (f c (msg_of x.1)) here (flat_map (sends_of xs) ns))
]

none-at-all : (ns : List Node) → flat_map (sends_of []) ns ≡ []
none-at-all [] = refl
none-at-all (n ∷ ns) = λ i. nothing-goes n i ++ none-at-all ns i

pub in-any-order : {C : Type 0} (f : C → PlainMsg → C) → MayChange f → (sh : Shape) (ms : List (NodeId × Msg))
    → All (λ m. is_node sh (node_of m.0) ≡ true) ms → (c : C)
    → fold f c (flat_map (sends_of ms) (nodes sh)) ≡ fold f c (map (λ m. msg_of m.1) ms)
in-any-order f both sh [] all c = ap (fold f c) (none-at-all (nodes sh))
in-any-order f both sh (x ∷ xs) all c =
    let e = All-head (λ m. is_node sh (node_of m.0) ≡ true) x xs all in
    let below = place-below sh (node_of x.0) e in
    at-its-node f both sh 0 (nodes sh) x xs (nodes-placed sh) e (omega arith) (omega (arith, below, nodes-length sh)) c
    ∙ in-any-order f both sh xs (All-tail (λ m. is_node sh (node_of m.0) ≡ true) x xs all) (f c (msg_of x.1))
