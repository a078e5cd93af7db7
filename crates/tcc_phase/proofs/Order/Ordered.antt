-- Events in their order: which of two stands first, and that two such lists of the same events are one.
use Rattle.std.proofs.Common.{◌≡◌, Bool, true, false, cond, ◌&&◌, ◌||◌, List, [], ◌∷◌, refl, ap, sym, ◌∙◌, subst, arith, inl, inr, ⊎_elim}
use Rattle.std.specs.Prelude.{nat_lt, filter}
use Rattle.std.proofs.lemmas.Bool.Decides.{nat_tests}
use Rattle.base_lemmas.proofs.Lemmas.{node_eq-sym}
use Rattle.rules_maps.specs.Nodes.{Node, Core, Dir, Vendor, Event, Exec, Evict, Deliver, node_eq}
use Rattle.rules_tcc.specs.Laws.{IsIn, IsBeforeAll, IsOrdered}
use Rattle.rules_tcc.specs.Useful.{event_before, node_before}

-- ---- of two events one stands before the other, not both

node-once : (a b : Node) → node_before a b ≡ true → node_before b a ≡ true → ⊥
node-once (Core c) (Core d) p q = grind (arith, nat_tests)
node-once (Core c) (Dir d) p q = absurd (cc)
node-once (Core c) Vendor p q = absurd (cc)
node-once (Dir c) (Core d) p q = absurd (cc)
node-once (Dir c) (Dir d) p q = grind (arith, nat_tests)
node-once (Dir c) Vendor p q = absurd (cc)
node-once Vendor b p q = absurd (cc)

node-same : (a b : Node) → node_eq a b ≡ true → node_before a b ≡ true → ⊥
node-same (Core c) (Core d) p q = grind (arith, nat_tests)
node-same (Core c) (Dir d) p q = absurd (cc)
node-same (Core c) Vendor p q = absurd (cc)
node-same (Dir c) (Core d) p q = absurd (cc)
node-same (Dir c) (Dir d) p q = grind (arith, nat_tests)
node-same (Dir c) Vendor p q = absurd (cc)
node-same Vendor b p q = absurd (cc)

-- of lexicographic orders
pairs-once : (a b c d e f : Bool) → (a ≡ true → d ≡ true → ⊥) → (b ≡ true → d ≡ true → ⊥) → (e ≡ true → a ≡ true → ⊥) → (c ≡ true
    → f ≡ true → ⊥)
    → (a || (b && c)) ≡ true → (d || (e && f)) ≡ true → ⊥
pairs-once true b c true e f x y z w p q = x refl refl
pairs-once true b c false true f x y z w p q = z refl refl
pairs-once true b c false false f x y z w p q = absurd (cc)
pairs-once false true c true e f x y z w p q = y refl refl
pairs-once false true true false true true x y z w p q = w refl refl
pairs-once false true false d e f x y z w p q = absurd (cc)
pairs-once false true true false false f x y z w p q = absurd (cc)
pairs-once false true true false true false x y z w p q = absurd (cc)
pairs-once false false c d e f x y z w p q = absurd (cc)

pub before-once : (a b : Event) → event_before a b ≡ true → event_before b a ≡ true → ⊥
before-once (Exec c) (Exec d) p q = grind (arith, nat_tests)
before-once (Exec c) (Evict d u v) p q = absurd (cc)
before-once (Exec c) (Deliver s d k) p q = absurd (cc)
before-once (Evict c x y) (Exec d) p q = absurd (cc)
before-once (Evict c x y) (Evict d u v) p q = grind (arith, nat_tests)
before-once (Evict c x y) (Deliver s d k) p q = absurd (cc)
before-once (Deliver s d k) (Exec e) p q = absurd (cc)
before-once (Deliver s d k) (Evict e u v) p q = absurd (cc)
before-once (Deliver s d k) (Deliver t e m) p q =
    pairs-once (node_before s t) (node_eq s t) _ (node_before t s) (node_eq t s) _
    (node-once s t) (λ x y. node-same t s (sym (node_eq-sym s t) ∙ x) y) (λ x y. node-same s t (node_eq-sym s t ∙ x) y)
    (pairs-once (node_before d e) (node_eq d e) (nat_lt k m) (node_before e d) (node_eq e d) (nat_lt m k)
    (node-once d e) (λ x y. node-same e d (sym (node_eq-sym d e) ∙ x) y) (λ x y. node-same d e (node_eq-sym d e ∙ x) y)
    (λ x y. grind (arith, nat_tests))) p q

pub not-itself : (e : Event) → event_before e e ≡ true → ⊥
not-itself e p = before-once e e p p

-- ---- lists

-- an event of a list stands behind what stands before them all
pub before-in : (e f : Event) (es : List Event) → IsBeforeAll e es → IsIn f es → event_before e f ≡ true
before-in e f [] b i = absurd i
before-in e f (x ∷ es) b i = ⊎_elim (λ (s : x ≡ f). subst (λ y. event_before e y ≡ true) s b.0) (λ j. before-in e f es b.1 j) i

-- two lists in order that hold the same events are one
pub same-events : (xs ys : List Event) → IsOrdered xs → IsOrdered ys → ((e : Event) → IsIn e xs → IsIn e ys) → ((e : Event) → IsIn e ys
    → IsIn e xs)
    → xs ≡ ys
same-events [] [] a b f g = refl
same-events [] (y ∷ ys) a b f g = absurd (g y (inl refl))
same-events (x ∷ xs) [] a b f g = absurd (f x (inl refl))
same-events (x ∷ xs) (y ∷ ys) a b f g = heads (same-events xs ys a.1 b.1) (f x (inl refl)) (g y (inl refl))
  where
    tails : (((e : Event) → IsIn e xs → IsIn e ys) → ((e : Event) → IsIn e ys → IsIn e xs) → xs ≡ ys) → x ≡ y → x ∷ xs ≡ y ∷ ys
    tails same s =
        let down : (e : Event) → IsIn e xs → IsIn e ys = λ e i.
        ⊎_elim (λ (q : y ≡ e). absurd (not-itself x (subst (λ z. event_before x z ≡ true) (sym (s ∙ q)) (before-in x e xs a.0 i)))) (λ j. j)
        (f e (inr i)) in
        let up : (e : Event) → IsIn e ys → IsIn e xs = λ e i.
        ⊎_elim (λ (q : x ≡ e). absurd (not-itself y (subst (λ z. event_before y z ≡ true) (sym (sym s ∙ q)) (before-in y e ys b.0 i))))
        (λ j. j)
        (g e (inr i)) in
        let rest = same down up in
        ap (λ z. z ∷ xs) s ∙ ap (λ zs. y ∷ zs) rest

    heads : (((e : Event) → IsIn e xs → IsIn e ys) → ((e : Event) → IsIn e ys → IsIn e xs) → xs ≡ ys) → IsIn x (y ∷ ys) → IsIn y (x ∷ xs)
        → x ∷ xs ≡ y ∷ ys
    heads same i j =
        ⊎_elim (λ (s : y ≡ x). tails same (sym s))
        (λ k. ⊎_elim (λ (s : x ≡ y). tails same s)
        (λ m. absurd (before-once x y (before-in x y xs a.0 m) (before-in y x ys b.0 k))) j) i

-- ---- parts of a list

pub filter-before : (p : Event → Bool) (e : Event) (es : List Event) → IsBeforeAll e es → IsBeforeAll e (filter p es)
filter-before p e [] b = tt
filter-before p e (x ∷ es) b = go (filter-before p e es b.1) (p x)
  where
    go : IsBeforeAll e (filter p es) → (t : Bool) → IsBeforeAll e (cond t (x ∷ filter p es) (filter p es))
    go r true = (b.0, r)
    go r false = r

pub filter-ordered : (p : Event → Bool) (es : List Event) → IsOrdered es → IsOrdered (filter p es)
filter-ordered p [] b = tt
filter-ordered p (x ∷ es) b = go (filter-ordered p es b.1) (p x)
  where
    go : IsOrdered (filter p es) → (t : Bool) → IsOrdered (cond t (x ∷ filter p es) (filter p es))
    go r true = (filter-before p x es b.0, r)
    go r false = r

pub in-filter : (p : Event → Bool) (e : Event) (es : List Event) → IsIn e es → p e ≡ true → IsIn e (filter p es)
in-filter p e [] i t = absurd i
in-filter p e (x ∷ es) i t = go (λ k. in-filter p e es k t) (p x) refl i
  where
    go : (IsIn e es → IsIn e (filter p es)) → (b : Bool) → p x ≡ b → IsIn e (x ∷ es) → IsIn e (cond b (x ∷ filter p es) (filter p es))
    go r true q j = ⊎_elim (λ s. inl s) (λ k. inr (r k)) j
    go r false q j = ⊎_elim (λ (s : x ≡ e). let w : p e ≡ false = ap p (sym s) ∙ q in absurd (cc)) (λ k. r k) j

pub filter-in : (p : Event → Bool) (e : Event) (es : List Event) → IsIn e (filter p es) → IsIn e es × (p e ≡ true)
filter-in p e [] i = absurd i
filter-in p e (x ∷ es) i = go (λ k. filter-in p e es k) (p x) refl i
  where
    go : (IsIn e (filter p es) → IsIn e es × (p e ≡ true)) → (b : Bool) → p x ≡ b → IsIn e (cond b (x ∷ filter p es) (filter p es))
        → IsIn e (x ∷ es) × (p e ≡ true)
    go f true q j = ⊎_elim (λ (s : x ≡ e). (inl s, ap p (sym s) ∙ q)) (λ k. let r = f k in (inr r.0, r.1)) j
    go f false q j = let r = f j in (inr r.0, r.1)
