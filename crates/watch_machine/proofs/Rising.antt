-- Messages that rise go each to a node of its own, so that telling of them in their order is telling of them by node.
use Rattle.std.proofs.Common.{◌≡◌, ℕ, zero, suc, ◌+◌, ◌-◌, ◌<◌, ◌≤◌, inl, inr, Bool, true, false, List, [], ◌∷◌, ◌++◌, drop, length, map}
use Rattle.std.proofs.Common.{length-append, get_or, refl, ap, sym, ◌∙◌, subst, append_assoc, append-nil, arith}
use Rattle.std.specs.List.{flat_map}
use Rattle.std.proofs.lemmas.Bool.{cases_eq, cases_lt}
use Rattle.std.proofs.lemmas.List.{drop_all, drop_more, length-map, map-append}
use Rattle.tcc_base.specs.declared.names.NodeId.{NodeId}
use Rattle.base_lemmas.proofs.Lemmas.{lt-from, node_eq-refl}
use Rattle.rules_maps.specs.Bridge.{node_of}
use Rattle.rules_maps.specs.Nodes.{Node, Core, Dir, Vendor, Msg as PlainMsg, node_eq}
use Rattle.rules_maps.specs.Shape.{Shape}
use Rattle.rules_maps.specs.Words.{those}
use Rattle.tcc_msg.specs.Plain.{msg_of, sends_of}
use Rattle.tcc_msg.specs.declared.msg.Msg.{Msg}
use Rattle.rules_tcc.specs.Seen.{numbers}
use Rattle.rules_tcc.specs.Step.{is_node}
use Rattle.rules_tcc.specs.Useful.{nodes}
use Rattle.rules_tcc.proofs.Lemmas.{node_eq-eq}
use Rattle.net_core.specs.Machine.{Machine, settings_of}
use Rattle.watch.specs.Facts.{Fact, Sent}
use Rattle.watch_machine.specs.Rising.{Rises, each_told, place_of}
use Rattle.watch_machine.specs.Telling.{count_on, last_facts, last_to, numbered_from}
use Rattle.watch_machine.proofs.Numbering.{goes, none-to, nothing-goes, stays}
use Rattle.theorem_serial.proofs.Lemmas.{is-lt}
use Rattle.net_core.proofs.Lemmas.{nodes-length}

-- ---- nodes by place

-- these nodes have the places from k on
unfoldable pub Placed : Shape → ℕ → List Node → Type 0
Placed sh k [] = Unit {0}
Placed sh k (n ∷ ns) = ((place_of sh n ≡ k) × (is_node sh n ≡ true)) × Placed sh (k + 1) ns

placed-append : (sh : Shape) (k j : ℕ) (xs ys : List Node) → Placed sh k xs → j ≡ k + length xs → Placed sh j ys → Placed sh k (xs ++ ys)
unfolding Placed
placed-append sh k j [] ys p e q = subst (λ i. Placed sh i ys) (omega (arith, e)) q
placed-append sh k j (x ∷ xs) ys p e q = (p.0, placed-append sh (k + 1) j xs ys p.1 (omega (arith, e)) q)

numbers-many : (n : ℕ) → length (numbers n) ≡ n
unfolding those
numbers-many zero = refl
numbers-many (suc n) = length-append (numbers n) (n ∷ []) ∙ omega (arith, numbers-many n)

cores-many : (n : ℕ) → length (map Core (numbers n)) ≡ n
cores-many n = length-map (numbers n) Core ∙ numbers-many n

dirs-many : (n : ℕ) → length (map Dir (numbers n)) ≡ n
dirs-many n = length-map (numbers n) Dir ∙ numbers-many n

cores-placed : (sh : Shape) (n : ℕ) → n ≤ sh.cores → Placed sh 0 (map Core (numbers n))
unfolding those Placed
cores-placed sh zero l = tt
cores-placed sh (suc n) l =
    subst (Placed sh 0) (sym (map-append Core (numbers n) (n ∷ [])))
    (placed-append sh 0 n (map Core (numbers n)) (Core n ∷ []) (cores-placed sh n (omega (arith, l))) (omega (arith, cores-many n))
    ((refl, is-lt n sh.cores (omega (arith, l))), tt))

dirs-placed : (sh : Shape) (n : ℕ) → n ≤ sh.dirs → Placed sh sh.cores (map Dir (numbers n))
unfolding those Placed
dirs-placed sh zero l = tt
dirs-placed sh (suc n) l =
    subst (Placed sh sh.cores) (sym (map-append Dir (numbers n) (n ∷ [])))
    (placed-append sh sh.cores (sh.cores + n) (map Dir (numbers n)) (Dir n ∷ []) (dirs-placed sh n (omega (arith, l)))
    (ap (λ i. sh.cores + i) (sym (dirs-many n)))
    ((refl, is-lt n sh.dirs (omega (arith, l))), tt))

pub nodes-placed : (sh : Shape) → Placed sh 0 (nodes sh)
unfolding nodes Placed
nodes-placed sh =
    placed-append sh 0 sh.cores (map Core (numbers sh.cores)) (map Dir (numbers sh.dirs) ++ Vendor ∷ [])
    (cores-placed sh sh.cores (omega arith)) (omega (arith, cores-many sh.cores))
    (placed-append sh sh.cores (sh.cores + sh.dirs) (map Dir (numbers sh.dirs)) (Vendor ∷ []) (dirs-placed sh sh.dirs (omega arith))
    (ap (λ i. sh.cores + i) (sym (dirs-many sh.dirs))) ((refl, refl), tt))

-- a node's place is below their number
pub place-below : (sh : Shape) (n : Node) → is_node sh n ≡ true → place_of sh n < sh.cores + sh.dirs + 1
place-below sh (Core c) e = omega (arith, lt-from c sh.cores e)
place-below sh (Dir d) e = omega (arith, lt-from d sh.dirs e)
place-below sh Vendor e = omega arith

-- and it is of no other node
pub one-place : (sh : Shape) (a b : Node) → is_node sh a ≡ true → is_node sh b ≡ true → place_of sh a ≡ place_of sh b → a ≡ b
one-place sh (Core c) (Core d) e f p = ap Core p
one-place sh (Core c) (Dir d) e f p = absurd (omega (arith, lt-from c sh.cores e, p))
one-place sh (Core c) Vendor e f p = absurd (omega (arith, lt-from c sh.cores e, p))
one-place sh (Dir c) (Core d) e f p = absurd (omega (arith, lt-from d sh.cores f, p))
one-place sh (Dir c) (Dir d) e f p = ap Dir (omega (arith, p))
one-place sh (Dir c) Vendor e f p = absurd (omega (arith, lt-from c sh.dirs e, p))
one-place sh Vendor (Core d) e f p = absurd (omega (arith, lt-from d sh.cores f, p))
one-place sh Vendor (Dir d) e f p = absurd (omega (arith, lt-from d sh.dirs f, p))
one-place sh Vendor Vendor e f p = refl

-- nodes at two places are two
pub two-nodes : (sh : Shape) (a b : Node) → (place_of sh a ≡ place_of sh b → ⊥) → node_eq a b ≡ false
two-nodes sh a b h = go (node_eq a b) refl
  where
    go : (t : Bool) → node_eq a b ≡ t → t ≡ false
    go false e = refl
    go true e = absurd (h (ap (place_of sh) (node_eq-eq a b e)))

-- ---- messages that rise

-- none goes to a node before them
none-before : (sh : Shape) (j : ℕ) (ms : List (NodeId × Msg)) (n : Node) → Rises sh j ms → place_of sh n < j → sends_of ms n ≡ []
unfolding Rises
none-before sh j [] n r l = nothing-goes n
none-before sh j (x ∷ xs) n r l =
    let before : place_of sh n < place_of sh (node_of x.0) = omega (arith, l, r.1.0) in
    stays x xs n (two-nodes sh n (node_of x.0) (λ e. omega (arith, before, e)))
    ∙ none-before sh (place_of sh (node_of x.0) + 1) xs n r.1.1 (omega (arith, before))

-- what one message to a node tells
one-told : (m : Machine) (src n : Node) (x : PlainMsg) → sends_of m.last n ≡ x ∷ []
    → last_to m src n ≡ Sent src n (count_on m src n - 1) x ∷ []
unfolding last_to numbered_from
one-told m src n x e = ap (λ ms. numbered_from src n (count_on m src n - length ms) ms) e

-- the messages that are left are all that go to nodes from place k on
abbrev AllFrom : Machine → Shape → ℕ → List (NodeId × Msg) → Type 0
AllFrom m sh k ms = (n : Node) → k ≤ place_of sh n → sends_of m.last n ≡ sends_of ms n

-- what isn't at a place, and not before it, is behind it
pub past : (i j : ℕ) → i ≤ j → (j ≡ i → ⊥) → i + 1 ≤ j
past i j l h = elim (cases_lt i j) [
  | inl g ↦ omega (arith, g)
  | inr g ↦ absurd (h (omega (arith, l, g)))
]

told-from : (m : Machine) (src : Node) (sh : Shape) (ns : List Node) (k : ℕ) (ms : List (NodeId × Msg)) → Placed sh k ns
    → k + length ns ≡ sh.cores + sh.dirs + 1 → Rises sh k ms → AllFrom m sh k ms → flat_map (last_to m src) ns ≡ each_told m src ms
unfolding Rises each_told Placed
told-from m src sh [] k [] p e r a = refl
told-from m src sh [] k (x ∷ xs) p e r a = absurd (omega (arith, e, r.1.0, place-below sh (node_of x.0) r.0))
told-from m src sh (n ∷ ns) k [] p e r a =
    ap (λ fs. fs ++ flat_map (last_to m src) ns)
    (none-to m src n (ap length (a n (omega (arith, p.0.0)) ∙ nothing-goes n)))
    ∙ told-from m src sh ns (k + 1) [] p.1 (omega (arith, e)) tt (λ o l. a o (omega (arith, l)))
told-from m src sh (n ∷ ns) k (x ∷ xs) p e r a = elim (cases_eq (place_of sh (node_of x.0)) k) [
  | inl q ↦
      let is : n ≡ node_of x.0 = one-place sh n (node_of x.0) p.0.1 r.0 (p.0.0 ∙ sym q) in
      let here : node_eq n (node_of x.0) ≡ true = ap (node_eq n) (sym is) ∙ node_eq-refl n in
      let rest : Rises sh (k + 1) xs = subst (λ i. Rises sh (i + 1) xs) q r.1.1 in
      let one : sends_of m.last n ≡ msg_of x.1 ∷ [] =
      a n (omega (arith, p.0.0)) ∙ goes x xs n here
      ∙ ap (λ ys. msg_of x.1 ∷ ys) (none-before sh (k + 1) xs n rest (omega (arith, p.0.0))) in
      ap (λ fs. fs ++ flat_map (last_to m src) ns)
      (one-told m src n (msg_of x.1) one ∙ ap (λ d. Sent src d (count_on m src d - 1) (msg_of x.1) ∷ []) is)
      ∙ ap (λ fs. Sent src (node_of x.0) (count_on m src (node_of x.0) - 1) (msg_of x.1) ∷ fs)
      (told-from m src sh ns (k + 1) xs p.1 (omega (arith, e)) rest
      (λ o l. a o (omega (arith, l)) ∙ stays x xs o (two-nodes sh o (node_of x.0) (λ f. omega (arith, l, q, f)))))
  | inr q ↦
      let behind : k + 1 ≤ place_of sh (node_of x.0) = past k (place_of sh (node_of x.0)) r.1.0 q in
      let rest : Rises sh (k + 1) (x ∷ xs) = (r.0, (behind, r.1.1)) in
      ap (λ fs. fs ++ flat_map (last_to m src) ns)
      (none-to m src n (ap length (a n (omega (arith, p.0.0)) ∙ none-before sh (k + 1) (x ∷ xs) n rest (omega (arith, p.0.0)))))
      ∙ told-from m src sh ns (k + 1) (x ∷ xs) p.1 (omega (arith, e)) rest (λ o l. a o (omega (arith, l)))
]

-- each in its turn is all by node
pub rising-told : (m : Machine) (src : Node) → Rises (settings_of m) 0 m.last → each_told m src m.last ≡ last_facts m src
unfolding last_facts
rising-told m src r =
    let sh = settings_of m in
    sym (told-from m src sh (nodes sh) 0 m.last (nodes-placed sh) (omega (arith, nodes-length sh)) r (λ n l. refl))

-- ---- in turn

pub rises-more : (sh : Shape) (ms : List (NodeId × Msg)) (i k p : ℕ) (d : NodeId × Msg) → i < length ms
    → is_node sh (node_of (get_or ms i d).0) ≡ true → p ≡ place_of sh (node_of (get_or ms i d).0) → k ≤ p
    → Rises sh (p + 1) (drop (i + 1) ms) → Rises sh k (drop i ms)
unfolding Rises
rises-more sh ms i k p d l e q g r =
    subst (Rises sh k) (sym (drop_more ms i d l))
    (e, (omega (arith, q, g), subst (λ j. Rises sh (j + 1) (drop (i + 1) ms)) q r))

pub rises-done : (sh : Shape) (ms : List (NodeId × Msg)) (i k : ℕ) → length ms ≤ i → Rises sh k (drop i ms)
unfolding Rises
rises-done sh ms i k l = subst (Rises sh k) (sym (drop_all i ms l)) tt

one-more : (m : Machine) (src : Node) (x : NodeId × Msg) (xs : List (NodeId × Msg)) (fs : List Fact)
    → (fs ++ Sent src (node_of x.0) (count_on m src (node_of x.0) - 1) (msg_of x.1) ∷ []) ++ each_told m src xs
    ≡ fs ++ each_told m src (x ∷ xs)
unfolding each_told
one-more m src x xs fs = append_assoc fs (Sent src (node_of x.0) (count_on m src (node_of x.0) - 1) (msg_of x.1) ∷ []) (each_told m src xs)

pub each-more : (m : Machine) (src : Node) (ms : List (NodeId × Msg)) (i seq : ℕ) (d : NodeId × Msg) (old now whole : List Fact)
    → i < length ms → seq ≡ count_on m src (node_of (get_or ms i d).0) - 1
    → now ≡ old ++ Sent src (node_of (get_or ms i d).0) seq (msg_of (get_or ms i d).1) ∷ []
    → old ++ each_told m src (drop i ms) ≡ whole → now ++ each_told m src (drop (i + 1) ms) ≡ whole
each-more m src ms i seq d old now whole l q e h =
    let x = get_or ms i d in
    ap (λ fs. fs ++ each_told m src (drop (i + 1) ms))
    (e ∙ ap (λ k. old ++ Sent src (node_of x.0) k (msg_of x.1) ∷ []) q)
    ∙ one-more m src x (drop (i + 1) ms) old
    ∙ ap (λ ys. old ++ each_told m src ys) (sym (drop_more ms i d l))
    ∙ h

pub each-done : (m : Machine) (src : Node) (ms : List (NodeId × Msg)) (i : ℕ) (now whole : List Fact) → length ms ≤ i
    → now ++ each_told m src (drop i ms) ≡ whole → now ≡ whole
unfolding each_told
each-done m src ms i now whole l h = sym (append-nil now) ∙ ap (λ ys. now ++ each_told m src ys) (sym (drop_all i ms l)) ∙ h
