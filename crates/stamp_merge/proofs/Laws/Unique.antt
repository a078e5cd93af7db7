-- Logs have one merge: two lists that are sorted by stamp and then by node, and hold the same of each node, are one.
use Rattle.std.proofs.Common.{◌≡◌, ℕ, Bool, true, false, cond, List, [], ◌∷◌, map, refl, ap, sym, ◌∙◌, subst, arith}
use Rattle.std.specs.Prelude.{nat_lt, ◌==◌, ◌&&◌, ◌||◌}
use Rattle.std.specs.List.{filter}
use Rattle.std.proofs.lemmas.Bool.Decides.{nat_tests}
use Rattle.tcc_base.specs.Settings.{Settings}
use Rattle.tcc_base.specs.declared.names.NodeId.{NodeId}
use Rattle.tcc_base.specs.declared.names.NodeId.TheVariants as named
use Rattle.base_lemmas.proofs.Lemmas.{node_eq-refl}
use Rattle.rules_maps.specs.Bridge.{node_of}
use Rattle.rules_maps.specs.Nodes.{Node, Core, Dir, Vendor, node_eq}
use Rattle.rules_maps.specs.Shape.{Shape}
use Rattle.tcc_msg.specs.Plain.{event_of}
use Rattle.tcc_msg.specs.declared.event.Event.{Event}
use Rattle.tcc_msg.specs.declared.event.Event.TheVariants as code
use Rattle.rules_tcc.specs.Local.{Entry, at_node}
use Rattle.rules_tcc.specs.Merged.{Each, Sorted, is_at, entry_before}
use Rattle.rules_tcc.specs.Step.{is_node}
use Rattle.rules_tcc.specs.Useful.{node_before}
use Rattle.rules_tcc.proofs.Lemmas.{node_eq-eq}
use Rattle.rules_apart.specs.Filled.{bare}
use Rattle.rules_apart.specs.Fitting.{IsMergeOf}
use Rattle.rules_apart.specs.declared.logs.Logged.{Logged}

other-way : (m n : Node) → node_eq m n ≡ false → node_eq n m ≡ false
other-way m n q = at (node_eq n m) refl
  where
    at : (b : Bool) → node_eq n m ≡ b → node_eq n m ≡ false
    at true e = let i : n ≡ m = node_eq-eq n m e in let j = node_eq-refl n in absurd (cc)
    at false e = e

one-before : (m n : Node) → node_before m n ≡ true → node_before n m ≡ true → ⊥
one-before (Core c) (Core d) h k = grind (arith, nat_tests)
one-before (Core c) (Dir d) h k = cc
one-before (Core c) Vendor h k = cc
one-before (Dir c) (Core d) h k = cc
one-before (Dir c) (Dir d) h k = grind (arith, nat_tests)
one-before (Dir c) Vendor h k = cc
one-before Vendor n h k = cc

-- of two entries one is before the other at most
one-first : (a b : ℕ) (c d : Bool) → (c ≡ true → d ≡ true → ⊥) → (nat_lt a b || (a == b && c)) ≡ true →
    (nat_lt b a || (b == a && d)) ≡ true → ⊥
one-first a b c d f h k = grind (arith, nat_tests)

one-entry-before : (e f : Entry) → entry_before e f ≡ true → entry_before f e ≡ true → ⊥
one-entry-before e f h k =
    one-first e.stamp f.stamp (node_before (at_node e.event) (at_node f.event)) (node_before (at_node f.event) (at_node e.event))
    (one-before (at_node e.event) (at_node f.event)) h k

filter-first : (x : Entry) (xs : List Entry) → filter (is_at (at_node x.event)) (x ∷ xs) ≡ x ∷ filter (is_at (at_node x.event)) xs
filter-first x xs = rw (node_eq-refl (at_node x.event)) refl

-- the first of those that pass is one of the list
first-passing : (P : Entry → Type 0) (t : Entry → Bool) (x : Entry) (xs ys : List Entry) → filter t ys ≡ x ∷ xs → Each P ys → P x
first-passing P t x xs [] e h = absurd (cc)
first-passing P t x xs (y ∷ ys) e h = at (t y) refl e (λ f. first-passing P t x xs ys f h.1)
  where
    at : (b : Bool) → t y ≡ b → cond b (y ∷ filter t ys) (filter t ys) ≡ x ∷ xs → (filter t ys ≡ x ∷ xs → P x) → P x
    at true q e f = let i : y ≡ x = cc in subst P i h.0
    at false q e f = f e

-- where the first entries are of two nodes, each stands behind the other
apart : (x y : Entry) (xs ys : List Entry) → node_eq (at_node y.event) (at_node x.event) ≡ false →
    filter (is_at (at_node x.event)) (x ∷ xs) ≡ filter (is_at (at_node x.event)) (y ∷ ys) → Each (λ f. entry_before y f ≡ true) ys →
    entry_before y x ≡ true
apart x y xs ys q e h =
    first-passing (λ f. entry_before y f ≡ true) (is_at (at_node x.event)) x (filter (is_at (at_node x.event)) xs) ys
    (let a = filter-first x xs in
    let b : filter (is_at (at_node x.event)) (y ∷ ys) ≡ filter (is_at (at_node x.event)) ys = (rw q refl) in
    cc)
    h

rest-same : (n : Node) (x : Entry) (xs ys : List Entry) → filter (is_at n) (x ∷ xs) ≡ filter (is_at n) (x ∷ ys) →
    filter (is_at n) xs ≡ filter (is_at n) ys
rest-same n x xs ys e = at (is_at n x) e
  where
    at : (b : Bool) → cond b (x ∷ filter (is_at n) xs) (filter (is_at n) xs) ≡ cond b (x ∷ filter (is_at n) ys) (filter (is_at n) ys) →
        filter (is_at n) xs ≡ filter (is_at n) ys
    at true e = cc
    at false e = e

-- the same of each node of the machine
abbrev Alike : Shape → List Entry → List Entry → Type 0
Alike sh xs ys = (n : Node) → is_node sh n ≡ true → filter (is_at n) xs ≡ filter (is_at n) ys

first-same : (sh : Shape) (x y : Entry) (xs ys : List Entry) → is_node sh (at_node x.event) ≡ true → is_node sh (at_node y.event) ≡ true →
    Sorted (x ∷ xs) → Sorted (y ∷ ys) → Alike sh (x ∷ xs) (y ∷ ys) → x ≡ y
first-same sh x y xs ys h k s t f = at (node_eq (at_node y.event) (at_node x.event)) refl
  where
    at : (b : Bool) → node_eq (at_node y.event) (at_node x.event) ≡ b → x ≡ y
    at true q =
        let a = filter-first x xs in
        let b : filter (is_at (at_node x.event)) (y ∷ ys) ≡ y ∷ filter (is_at (at_node x.event)) ys = (rw q refl) in
        let c = f (at_node x.event) h in
        cc
    at false q = absurd (one-entry-before x y
        (apart y x ys xs (other-way (at_node y.event) (at_node x.event) q) (sym (f (at_node y.event) k)) s.0)
        (apart x y xs ys q (f (at_node x.event) h) t.0))

merged-same : (sh : Shape) (xs ys : List Entry) →
    Each (λ e. is_node sh (at_node e.event) ≡ true) xs → Each (λ e. is_node sh (at_node e.event) ≡ true) ys →
    Sorted xs → Sorted ys → Alike sh xs ys → xs ≡ ys
merged-same sh [] [] h k s t f = refl
merged-same sh [] (y ∷ ys) h k s t f = let a = filter-first y ys in let b = f (at_node y.event) k.0 in absurd (cc)
merged-same sh (x ∷ xs) [] h k s t f = let a = filter-first x xs in let b = f (at_node x.event) h.0 in absurd (cc)
merged-same sh (x ∷ xs) (y ∷ ys) h k s t f =
    let a : x ≡ y = first-same sh x y xs ys h.0 k.0 s t f in
    let b : xs ≡ ys = merged-same sh xs ys h.1 k.1 s.1 t.1
    (λ n i. rest-same n x xs ys (subst (λ z. filter (is_at n) (x ∷ xs) ≡ filter (is_at n) (z ∷ ys)) (sym a) (f n i))) in
    cc

same-node_id : (a b : NodeId) → node_of a ≡ node_of b → a ≡ b
same-node_id (named.Core c) (named.Core d) e = let f : c.0 ≡ d.0 = cc in ap (λ k. named.Core (record { 0 = k })) f
same-node_id (named.Dir c) (named.Dir d) e = let f : c.0 ≡ d.0 = cc in ap (λ k. named.Dir (record { 0 = k })) f
same-node_id named.Vendor named.Vendor e = refl
same-node_id (named.Core c) (named.Dir d) e = absurd (cc)
same-node_id (named.Core c) named.Vendor e = absurd (cc)
same-node_id (named.Dir c) (named.Core d) e = absurd (cc)
same-node_id (named.Dir c) named.Vendor e = absurd (cc)
same-node_id named.Vendor (named.Core d) e = absurd (cc)
same-node_id named.Vendor (named.Dir d) e = absurd (cc)

same-event : (a b : Event) → event_of a ≡ event_of b → a ≡ b
same-event (code.Exec c) (code.Exec d) e = let f : c.0 ≡ d.0 = cc in ap (λ k. code.Exec (record { 0 = k })) f
same-event (code.Evict c x y) (code.Evict d u v) e =
    let f : c.0 ≡ d.0 = cc in let g : x ≡ u = cc in let h : y ≡ v = cc in λ i. code.Evict (record { 0 = f i }) (g i) (h i)
same-event (code.Deliver m) (code.Deliver n) e =
    let f : m.src ≡ n.src = same-node_id m.src n.src (let a : node_of m.src ≡ node_of n.src = cc in a) in
    let g : m.dst ≡ n.dst = same-node_id m.dst n.dst (let a : node_of m.dst ≡ node_of n.dst = cc in a) in
    let h : m.seq ≡ n.seq = cc in
    λ i. code.Deliver (record { src = f i; dst = g i; seq = h i })
same-event (code.Exec c) (code.Evict d u v) e = absurd (cc)
same-event (code.Exec c) (code.Deliver n) e = absurd (cc)
same-event (code.Evict c x y) (code.Exec d) e = absurd (cc)
same-event (code.Evict c x y) (code.Deliver n) e = absurd (cc)
same-event (code.Deliver m) (code.Exec d) e = absurd (cc)
same-event (code.Deliver m) (code.Evict d u v) e = absurd (cc)

-- entries that are one by themselves have one event
same-events : (ks ls : List Logged) → map bare ks ≡ map bare ls → map (λ l. l.event) ks ≡ map (λ l. l.event) ls
unfolding bare
same-events [] [] e = refl
same-events [] (l ∷ ls) e = absurd (cc)
same-events (k ∷ ks) [] e = absurd (cc)
same-events (k ∷ ks) (l ∷ ls) e =
    let h : bare k ≡ bare l = cc in
    let t : map bare ks ≡ map bare ls = cc in
    let i : k.event ≡ l.event = same-event k.event l.event (ap (λ x. x.event) h) in
    let r = same-events ks ls t in
    cc

pub merge-one : (s : Settings) (logs : List (List Logged)) (xs ys : List Event) → IsMergeOf s logs xs → IsMergeOf s logs ys → xs ≡ ys
merge-one s logs xs ys m n =
    let k : List Entry = map bare m.entries in
    let l : List Entry = map bare n.entries in
    let e : k ≡ l = merged-same s k l m.merged.nodes n.merged.nodes m.merged.sorted n.merged.sorted
    (λ i h. m.merged.parts i h ∙ sym (n.merged.parts i h)) in
    m.events_are ∙ (same-events m.entries n.entries e ∙ sym n.events_are)
