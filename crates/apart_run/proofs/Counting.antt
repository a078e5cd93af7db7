-- A merge has as many events as the logs have entries.
use Rattle.std.proofs.Common.{◌≡◌, ℕ, zero, suc, ◌+◌, ◌-◌, ◌<◌, Bool, true, false, List, [], ◌∷◌, length, map, refl, ap, sym, ◌∙◌}
use Rattle.std.proofs.Common.{arith, cond, if◌then◌else◌}
use Rattle.std.specs.Prelude.{◌==◌, nat_lt, slice_index_or}
use Rattle.std.specs.List.{filter}
use Rattle.std.proofs.lemmas.Bool.Decides.{nat_tests}
use Rattle.std.proofs.lemmas.List.{length-map}
use Rattle.node_locks.specs.Turns.{entries_in}
use Rattle.rules_apart.specs.Filled.{bare}
use Rattle.rules_apart.specs.Fitting.{IsMergeOf, log_of, node_count, place}
use Rattle.rules_apart.specs.declared.logs.Logged.{Logged}
use Rattle.tcc_base.specs.Settings.{Settings}
use Rattle.base_lemmas.proofs.Lemmas.{lt-from}
use Rattle.rules_maps.specs.Nodes.{Core, Dir, Node, Vendor, node_eq}
use Rattle.tcc_msg.specs.declared.event.Event.{Event}
use Rattle.rules_tcc.specs.Local.{Entry, at_node}
use Rattle.rules_tcc.specs.Merged.{Each, IsMerged, is_at}
use Rattle.rules_tcc.specs.Step.{is_node}
use Rattle.node_locks.proofs.Lemmas.{place-within}

-- ---- sums over the numbers below n

added : (ℕ → ℕ) → ℕ → ℕ
added f zero = 0
added f (suc n) = f 0 + added (λ i. f (suc i)) n

added-same : (f g : ℕ → ℕ) (n : ℕ) → ((i : ℕ) → i < n → f i ≡ g i) → added f n ≡ added g n
unfolding added
added-same f g zero e = refl
added-same f g (suc n) e =
    let first = e 0 (omega arith) in
    let rest = added-same (λ i. f (suc i)) (λ i. g (suc i)) n (λ i l. e (suc i) (omega arith)) in
    omega (arith, first, rest)

added-none : (f : ℕ → ℕ) (n : ℕ) → ((i : ℕ) → f i ≡ 0) → added f n ≡ 0
unfolding added
added-none f zero e = refl
added-none f (suc n) e = let first = e 0 in let rest = added-none (λ i. f (suc i)) n (λ i. e (suc i)) in omega (arith, first, rest)

added-both : (f g : ℕ → ℕ) (n : ℕ) → added (λ i. f i + g i) n ≡ added f n + added g n
unfolding added
added-both f g zero = refl
added-both f g (suc n) = let rest = added-both (λ i. f (suc i)) (λ i. g (suc i)) n in omega (arith, rest)

-- one where they are equal
abbrev same : ℕ → ℕ → ℕ
same a b = cond (a == b) 1 0

same-self : (a : ℕ) → same a a ≡ 1
same-self a = grind (arith, nat_tests)

same-other : (a b : ℕ) → (a ≡ b → ⊥) → same a b ≡ 0
same-other a b e = grind (arith, nat_tests)

same-suc : (a b : ℕ) → same (suc a) (suc b) ≡ same a b
same-suc a b = grind (arith, nat_tests)

added-one : (n p : ℕ) → p < n → added (same p) n ≡ 1
unfolding added
added-one zero p l = absurd (omega (arith, l))
added-one (suc n) zero l =
    let rest = added-none (λ i. same 0 (suc i)) n (λ i. same-other 0 (suc i) (λ e. omega (arith, e))) in
    let first = same-self 0 in
    omega (arith, first, rest)
added-one (suc n) (suc p) l =
    let rest = added-one n p (omega (arith, l)) in
    let shifted = added-same (λ i. same (suc p) (suc i)) (same p) n (λ i below. same-suc p i) in
    let first = same-other (suc p) 0 (λ e. omega (arith, e)) in
    omega (arith, first, rest, shifted)

-- ---- the lengths of logs

log-lengths : (logs : List (List Logged)) → entries_in logs ≡ added (λ i. length (slice_index_or logs i [])) (length logs)
unfolding added entries_in
log-lengths [] = refl
log-lengths (l ∷ ls) = ap (λ n. length l + n) (log-lengths ls)

-- ---- the entries of a merge

abbrev entry_place : Settings → Entry → ℕ
entry_place s e = place s (at_node e.event)

-- how many are at that place
at_place : Settings → ℕ → List Entry → ℕ
at_place s i [] = 0
at_place s i (e ∷ es) = same (entry_place s e) i + at_place s i es

-- each stands at one place
all-places : (s : Settings) (es : List Entry) → Each (λ e. is_node s (at_node e.event) ≡ true) es
    → added (λ i. at_place s i es) (node_count s) ≡ length es
unfolding at_place
all-places s [] a = added-none (λ i. 0) (node_count s) (λ i. refl)
all-places s (e ∷ es) (h, a) =
    let both = added-both (same (entry_place s e)) (λ i. at_place s i es) (node_count s) in
    let one = added-one (node_count s) (entry_place s e) (place-within s (at_node e.event) h) in
    let rest = all-places s es a in
    omega (arith, both, one, rest)

-- nodes of the machine are told apart by their places
node-by-place : (s : Settings) (m n : Node) → is_node s m ≡ true → is_node s n ≡ true
    → cond (node_eq m n) 1 0 ≡ same (place s m) (place s n)
node-by-place s (Core c) (Core d) p q = refl
node-by-place s (Core c) (Dir d) p q = let l = lt-from c s.cores p in sym (same-other c (s.cores + d) (λ e. omega (arith, e, l)))
node-by-place s (Core c) Vendor p q = let l = lt-from c s.cores p in sym (same-other c (s.cores + s.dirs) (λ e. omega (arith, e, l)))
node-by-place s (Dir c) (Core d) p q = let l = lt-from d s.cores q in sym (same-other (s.cores + c) d (λ e. omega (arith, e, l)))
node-by-place s (Dir c) (Dir d) p q = grind (arith, nat_tests)
node-by-place s (Dir c) Vendor p q =
    let l = lt-from c s.dirs p in sym (same-other (s.cores + c) (s.cores + s.dirs) (λ e. omega (arith, e, l)))
node-by-place s Vendor (Core d) p q = let l = lt-from d s.cores q in sym (same-other (s.cores + s.dirs) d (λ e. omega (arith, e, l)))
node-by-place s Vendor (Dir d) p q =
    let l = lt-from d s.dirs q in sym (same-other (s.cores + s.dirs) (s.cores + d) (λ e. omega (arith, e, l)))
node-by-place s Vendor Vendor p q = sym (same-self (s.cores + s.dirs))

one-longer : (b : Bool) (e : Entry) (es : List Entry) → length (cond b (e ∷ es) es) ≡ cond b 1 0 + length es
one-longer true e es = omega arith
one-longer false e es = omega arith

part-length : (s : Settings) (n : Node) (es : List Entry) → is_node s n ≡ true → Each (λ e. is_node s (at_node e.event) ≡ true) es
    → length (filter (is_at n) es) ≡ at_place s (place s n) es
unfolding at_place
part-length s n [] q a = refl
part-length s n (e ∷ es) q (h, a) =
    let longer = one-longer (node_eq (at_node e.event) n) e (filter (is_at n) es) in
    let apart = node-by-place s (at_node e.event) n h q in
    let rest = part-length s n es q a in
    omega (arith, longer, apart, rest)

-- ---- the node at a place

abbrev node_at : Settings → ℕ → Node
node_at s i = if nat_lt i s.cores then Core i else if nat_lt i (s.cores + s.dirs) then Dir (i - s.cores) else Vendor

record IsAt (s : Settings) (i : ℕ) (n : Node) : Type 0 where
  pub there : is_node s n ≡ true
  pub place : place s n ≡ i

is-at : (s : Settings) (i : ℕ) → i < node_count s → IsAt s i (node_at s i)
is-at s i l = go (nat_lt i s.cores) (nat_lt i (s.cores + s.dirs)) refl refl
  where
    go : (a b : Bool) → nat_lt i s.cores ≡ a → nat_lt i (s.cores + s.dirs) ≡ b
        → IsAt s i (if a then Core i else if b then Dir (i - s.cores) else Vendor)
    go true b p q = record { there = p; place = refl }
    go false true p q = record { there = grind (arith, nat_tests, p, q); place = grind (arith, nat_tests, p, q) }
    go false false p q = record { there = refl; place = grind (arith, nat_tests, p, q, l) }

log-at : (s : Settings) (logs : List (List Logged)) (es : List Logged) (m : IsMerged s (λ n. map bare (log_of s logs n)) (map bare es))
    (i : ℕ) → i < node_count s → length (slice_index_or logs i []) ≡ at_place s i (map bare es)
unfolding log_of
log-at s logs es m i l =
    let n = node_at s i in
    let at = is-at s i l in
    ap (λ k. length (slice_index_or logs k [])) (sym at.place)
    ∙ sym (length-map (log_of s logs n) bare)
    ∙ ap (λ x. length x) (sym (m.parts n at.there))
    ∙ part-length s n (map bare es) at.there m.nodes
    ∙ ap (λ k. at_place s k (map bare es)) at.place

pub merge-length : (s : Settings) (logs : List (List Logged)) (events : List Event) → length logs ≡ node_count s → IsMergeOf s logs events
    → length events ≡ entries_in logs
merge-length s logs events count m =
    ap (λ x. length x) m.events_are
    ∙ length-map m.entries (λ e. e.event)
    ∙ sym (length-map m.entries bare)
    ∙ sym (all-places s (map bare m.entries) m.merged.nodes)
    ∙ sym (added-same (λ i. length (slice_index_or logs i [])) (λ i. at_place s i (map bare m.entries)) (node_count s)
    (λ i l. log-at s logs m.entries m.merged i l))
    ∙ ap (added (λ i. length (slice_index_or logs i []))) (sym count)
    ∙ sym (log-lengths logs)
