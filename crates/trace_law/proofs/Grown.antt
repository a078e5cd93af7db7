-- What an event makes of the links, and what it tells as sent.
use Rattle.std.proofs.Common.{◌≡◌, ◌+◌, ◌⊎◌, ℕ, zero, suc, Bool, true, false, List, [], ◌∷◌, ◌++◌, Some, None}
use Rattle.std.proofs.Common.{◌&&◌, if◌then◌else◌, length, drop, refl, sym, ap, subst, ◌∙◌, inl, inr, arith}
use Rattle.std.specs.List.{flat_map, Contains}
use Rattle.std.specs.Prelude.{slice_index_or}
use Rattle.std.proofs.lemmas.List.{append-nil, append_assoc}
use Rattle.std.proofs.lemmas.List.Elements.{Contains-append_right}
use Rattle.base_lemmas.proofs.Lemmas.{drop-front, node_eq-refl, node_eq-sym}
use Rattle.rules_maps.specs.Nodes.{Node, Msg, node_eq}
use Rattle.rules_maps.specs.Shape.{Shape}
use Rattle.rules_tcc.specs.Laws.{counting}
use Rattle.rules_tcc.specs.Links.{in_flight, sent_all, sending}
use Rattle.rules_tcc.specs.Sends.{Sends}
use Rattle.rules_tcc.specs.State.{Link, World}
use Rattle.rules_tcc.specs.Step.{is_node}
use Rattle.rules_tcc.specs.Useful.{nodes}
use Rattle.rules_tcc.proofs.Lemmas.{node_eq-eq}
use Rattle.watch.specs.Facts.{Fact, Sent}
use Rattle.watch.specs.Happened.{numbered, sent_to, sent}
use Rattle.trace_law.specs.Sent.{number_in, numbers_in}
use Rattle.trace_law.proofs.Links.{length-sent, counting-more, in-sent}
use Rattle.trace_law.proofs.Nodes.{where_so, node-once, node-gives}

-- node a acted: links that were left, with what it sent at their end
pub record Grown (w v : World) (a : Node) : Type 0 where
  pub links : Node → Node → Link
  pub sends : Sends
  pub grown : v.net ≡ sending links a sends
  pub long : (s d : Node) → length (links s d) ≡ length (w.net s d)
  pub flew : (s d : Node) (k : ℕ) (m : Msg) → in_flight links s d k ≡ Some m → in_flight w.net s d k ≡ Some m

-- its own links after it
own-link : (w v : World) (a d : Node) (g : Grown w v a) → v.net a d ≡ g.links a d ++ sent_all (g.sends d)
own-link w v a d g = ap (λ n. n a d) g.grown ∙ go (node_eq a a) (node_eq-refl a)
  where
    go : (b : Bool) → b ≡ true → (if b then g.links a d ++ sent_all (g.sends d) else g.links a d) ≡ g.links a d ++ sent_all (g.sends d)
    go true e = refl
    go false e = absurd cc

-- and those of others
other-link : (w v : World) (a s d : Node) (g : Grown w v a) → node_eq s a ≡ false → v.net s d ≡ g.links s d
other-link w v a s d g e = ap (λ n. n s d) g.grown ∙ go (node_eq s a) e
  where
    go : (b : Bool) → b ≡ false → (if b then g.links s d ++ sent_all (g.sends d) else g.links s d) ≡ g.links s d
    go true e = absurd cc
    go false e = refl

-- what stands on its links behind all that was sent there before
new-part : (w v : World) (a d : Node) (g : Grown w v a) → drop (length (w.net a d)) (v.net a d) ≡ sent_all (g.sends d)
new-part w v a d g =
    ap (λ l. drop (length (w.net a d)) l) (own-link w v a d g)
    ∙ drop-front (w.net a d) (g.links a d) (sent_all (g.sends d)) (g.long a d)

-- ---- the numbers that are told

pub numbers-append : (s d : Node) (fs gs : List Fact) → numbers_in s d (fs ++ gs) ≡ numbers_in s d fs ++ numbers_in s d gs
unfolding numbers_in
numbers-append s d [] gs = refl
numbers-append s d (f ∷ fs) gs =
    ap (λ ks. number_in s d f ++ ks) (numbers-append s d fs gs)
    ∙ sym (append_assoc (number_in s d f) (numbers_in s d fs) (numbers_in s d gs))

numbers-flat : (s d : Node) (f : Node → List Fact) (ns : List Node)
    → numbers_in s d (flat_map f ns) ≡ flat_map (λ n. numbers_in s d (f n)) ns
unfolding numbers_in
numbers-flat s d f [] = refl
numbers-flat s d f (n ∷ ns) =
    numbers-append s d (f n) (flat_map f ns) ∙ ap (λ ks. numbers_in s d (f n) ++ ks) (numbers-flat s d f ns)

numbers-numbered : (s d a n : Node) (k : ℕ) (ms : List Msg)
    → numbers_in s d (numbered a n k (sent_all ms)) ≡ where_so (node_eq a s && node_eq n d) (counting k (length ms))
unfolding numbers_in numbered sent_all counting
numbers-numbered s d a n k [] = go (node_eq a s && node_eq n d)
  where
    go : (b : Bool) → [] ≡ where_so {A = ℕ} b []
    go true = refl
    go false = refl
numbers-numbered s d a n k (m ∷ ms) =
    ap (λ ks. where_so (node_eq a s && node_eq n d) (k ∷ []) ++ ks) (numbers-numbered s d a n (k + 1) ms) ∙ go (node_eq a s && node_eq n d)
  where
    go : (b : Bool) → where_so b (k ∷ []) ++ where_so b (counting (k + 1) (length ms)) ≡ where_so b (k ∷ counting (k + 1) (length ms))
    go true = refl
    go false = refl

-- what is told as sent from s to d: the numbers of what node a sent there
pub numbers-sent : (sh : Shape) (w v : World) (a s d : Node) (g : Grown w v a) → is_node sh d ≡ true
    → numbers_in s d (sent sh w v a) ≡ where_so (node_eq a s) (counting (length (w.net a d)) (length (g.sends d)))
unfolding sent sent_to
numbers-sent sh w v a s d g node =
    numbers-flat s d (sent_to w v a) (nodes sh)
    ∙ ap (λ f. flat_map f (nodes sh)) (λ i n. each n i)
    ∙ node-once sh d (where_so (node_eq a s) (counting (length (w.net a d)) (length (g.sends d)))) node
  where
    swap : (n : Node) (b c : Bool) → node_eq n d ≡ c
        → where_so (b && c) (counting (length (w.net a n)) (length (g.sends n)))
        ≡ where_so c (where_so b (counting (length (w.net a d)) (length (g.sends d))))
    swap n b true e =
        let same : n ≡ d = node_eq-eq n d e in
        rw same (all b)
      where
        all : (b : Bool) → where_so (b && true) (counting (length (w.net a d)) (length (g.sends d)))
            ≡ where_so b (counting (length (w.net a d)) (length (g.sends d)))
        all true = refl
        all false = refl
    swap n true false e = refl
    swap n false false e = refl

    each : (n : Node) → numbers_in s d (numbered a n (length (w.net a n)) (drop (length (w.net a n)) (v.net a n)))
        ≡ where_so (node_eq n d) (where_so (node_eq a s) (counting (length (w.net a d)) (length (g.sends d))))
    each n =
        ap (λ l. numbers_in s d (numbered a n (length (w.net a n)) l)) (new-part w v a n g)
        ∙ numbers-numbered s d a n (length (w.net a n)) (g.sends n)
        ∙ swap n (node_eq a s) (node_eq n d) refl

-- with those of what was sent before they are those of all that was sent
pub numbers-grown : (sh : Shape) (w v : World) (a s d : Node) → Grown w v a → is_node sh d ≡ true
    → counting 0 (length (w.net s d)) ++ numbers_in s d (sent sh w v a) ≡ counting 0 (length (v.net s d))
numbers-grown sh w v a s d g node =
    ap (λ ks. counting 0 (length (w.net s d)) ++ ks) (numbers-sent sh w v a s d g node) ∙ go (node_eq a s) refl
  where
    go : (b : Bool) → node_eq a s ≡ b
        → counting 0 (length (w.net s d)) ++ where_so b (counting (length (w.net a d)) (length (g.sends d)))
        ≡ counting 0 (length (v.net s d))
    go true e =
        let same : a ≡ s = node_eq-eq a s e in
        let old : length (w.net a d) ≡ 0 + length (w.net s d) = omega (arith, ap (λ n. length (w.net n d)) same) in
        let all : length (w.net s d) + length (g.sends d) ≡ length (v.net s d) =
        omega (
          arith,
          ap (λ n. length (w.net n d)) same,
          ap (λ n. length (v.net n d)) same,
          ap length (own-link w v a d g),
          length-sent (g.links a d) (g.sends d),
          g.long a d,
        ) in
        ap (λ k. counting 0 (length (w.net s d)) ++ counting k (length (g.sends d))) old
        ∙ sym (counting-more 0 (length (w.net s d)) (length (g.sends d))) ∙ ap (counting 0) all
    go false e =
        let apart : node_eq s a ≡ false = node_eq-sym s a ∙ e in
        let all : length (w.net s d) ≡ length (v.net s d) = omega (arith, ap length (other-link w v a s d g apart), g.long s d) in
        append-nil (counting 0 (length (w.net s d))) ∙ ap (counting 0) all

-- ---- what is in flight was in flight, or is told as sent

contains-head : {A : Type 0} (x : A) (xs : List A) → Contains (x ∷ xs) x
contains-head x xs = (0, omega arith, refl)

contains-numbered : (a d : Node) (k i : ℕ) (ms : List Msg) (m : Msg) → slice_index_or (sent_all ms) i None ≡ Some m
    → Contains (numbered a d k (sent_all ms)) (Sent a d (k + i) m)
unfolding numbered sent_all
contains-numbered a d k i [] m e = absurd cc
contains-numbered a d k zero (x ∷ ms) m e =
    let same : x ≡ m = cc in
    let first : k ≡ k + 0 = omega arith in
    subst (λ f. Contains (Sent a d k x ∷ numbered a d (k + 1) (sent_all ms)) f) (λ i. Sent a d (first i) (same i))
    (contains-head (Sent a d k x) (numbered a d (k + 1) (sent_all ms)))
contains-numbered a d k (suc i) (x ∷ ms) m e =
    let next : k + suc i ≡ k + 1 + i = omega arith in
    rw next (Contains-append_right (Sent a d k x ∷ []) (numbered a d (k + 1) (sent_all ms)) (Sent a d (k + 1 + i) m)
    (contains-numbered a d (k + 1) i ms m e))

pub flies-or-sent : (sh : Shape) (w v : World) (a s d : Node) (k : ℕ) (m : Msg) → Grown w v a → is_node sh d ≡ true
    → in_flight v.net s d k ≡ Some m
    → (in_flight w.net s d k ≡ Some m) ⊎ Contains (sent sh w v a) (Sent s d k m)
unfolding sent sent_to
flies-or-sent sh w v a s d k m g node e = go (node_eq s a) refl
  where
    new : (k : ℕ) (x : (i : ℕ) × (k ≡ length (g.links a d) + i) × (slice_index_or (sent_all (g.sends d)) i None ≡ Some m))
        → Contains (flat_map (sent_to w v a) (nodes sh)) (Sent a d k m)
    new k x =
        let place : k ≡ length (w.net a d) + x.0 = omega (arith, x.1, g.long a d) in
        rw place (node-gives sh d (sent_to w v a) (Sent a d (length (w.net a d) + x.0) m) node
        (rw (new-part w v a d g) (contains-numbered a d (length (w.net a d)) x.0 (g.sends d) m x.2)))

    own : (in_flight g.links a d k ≡ Some m)
        ⊎ ((i : ℕ) × (k ≡ length (g.links a d) + i) × (slice_index_or (sent_all (g.sends d)) i None ≡ Some m))
        → (in_flight w.net a d k ≡ Some m) ⊎ Contains (flat_map (sent_to w v a) (nodes sh)) (Sent a d k m)
    own (inl f) = inl (g.flew a d k m f)
    own (inr x) = inr (new k x)

    go : (b : Bool) → node_eq s a ≡ b → (in_flight w.net s d k ≡ Some m) ⊎ Contains (flat_map (sent_to w v a) (nodes sh)) (Sent s d k m)
    go true f =
        let same : a ≡ s = sym (node_eq-eq s a f) in
        let here : slice_index_or (g.links a d ++ sent_all (g.sends d)) k None ≡ Some m =
        ap (λ l. slice_index_or l k None) (sym (own-link w v a d g)) ∙ ap (λ n. in_flight v.net n d k) same ∙ e in
        subst (λ n. (in_flight w.net n d k ≡ Some m) ⊎ Contains (flat_map (sent_to w v a) (nodes sh)) (Sent n d k m)) same
        (own (in-sent (g.links a d) (sent_all (g.sends d)) k m here))
    go false f = inl (g.flew s d k m (ap (λ l. slice_index_or l k None) (sym (other-link w v a s d g f)) ∙ e))
