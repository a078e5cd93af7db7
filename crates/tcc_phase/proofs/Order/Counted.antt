-- Of a list in order some events are left out: which one is the k-th that isn't.
use Rattle.std.proofs.Common.{◌≡◌, ℕ, zero, suc, ◌+◌, ◌-◌, ◌<◌, ◌≤◌, Bool, true, false, cond, List, [], ◌∷◌, length, take, Some, None}
use Rattle.std.proofs.Common.{refl, ap, sym, subst, arith}
use Rattle.std.specs.Prelude.{filter, not, slice_get}
use Rattle.rules_maps.specs.Nodes.{Event}
use Rattle.rules_tcc.specs.Laws.{IsBeforeAll, IsOrdered}
use Rattle.rules_tcc.specs.Useful.{event_before}
use Rattle.tcc_phase.proofs.Order.Ordered.{before-in, before-once, not-itself, filter-before}
use Rattle.live_core.proofs.Lemmas.{is-at}

-- how many of the first n are left out
abbrev pub left_out : (p : Event → Bool) → List Event → (n : ℕ) → ℕ
left_out p es n = length (filter p (take n es))

one : Bool → ℕ
one b = cond b 1 0

-- ---- how many there are

pub all-parts : (p : Event → Bool) (es : List Event) → length (filter p es) + length (filter (λ e. not (p e)) es) ≡ length es
all-parts p [] = refl
all-parts p (x ∷ es) = let r = all-parts p es in go (p x) r
  where
    go : (b : Bool) → length (filter p es) + length (filter (λ e. not (p e)) es) ≡ length es
        → length (cond b (x ∷ filter p es) (filter p es))
        + length (cond (not b) (x ∷ filter (λ e. not (p e)) es) (filter (λ e. not (p e)) es)) ≡ suc (length es)
    go true r = omega (arith, r)
    go false r = omega (arith, r)

pub out-most : (p : Event → Bool) (es : List Event) (n : ℕ) → left_out p es n ≤ length (filter p es)
out-most p [] zero = omega arith
out-most p [] (suc n) = omega arith
out-most p (x ∷ es) zero = omega arith
out-most p (x ∷ es) (suc n) = let r = out-most p es n in go (p x) r
  where
    go : (b : Bool) → left_out p es n ≤ length (filter p es)
        → length (cond b (x ∷ filter p (take n es)) (filter p (take n es))) ≤ length (cond b (x ∷ filter p es) (filter p es))
    go true r = omega (arith, r)
    go false r = omega (arith, r)

pub out-rises : (p : Event → Bool) (es : List Event) (n : ℕ) → left_out p es n ≤ left_out p es (suc n)
out-rises p [] zero = omega arith
out-rises p [] (suc n) = omega arith
out-rises p (x ∷ es) zero = omega arith
out-rises p (x ∷ es) (suc n) = let r = out-rises p es n in go (p x) r
  where
    go : (b : Bool) → left_out p es n ≤ left_out p es (suc n)
        → length (cond b (x ∷ filter p (take n es)) (filter p (take n es)))
        ≤ length (cond b (x ∷ filter p (take (suc n) es)) (filter p (take (suc n) es)))
    go true r = omega (arith, r)
    go false r = omega (arith, r)

short : (p : Event → Bool) (es : List Event) (n : ℕ) → left_out p es n ≤ n
short p [] zero = omega arith
short p [] (suc n) = omega arith
short p (x ∷ es) zero = omega arith
short p (x ∷ es) (suc n) = let r = short p es n in go (p x) r
  where
    go : (b : Bool) → left_out p es n ≤ n → length (cond b (x ∷ filter p (take n es)) (filter p (take n es))) ≤ suc n
    go true r = omega (arith, r)
    go false r = omega (arith, r)

-- ---- the k-th

-- where i of the first k + i are left out, and the next isn't, it is the k-th that isn't
pub kth : (p : Event → Bool) (es : List Event) (k i n : ℕ) → n ≡ k + i → left_out p es n ≡ i → left_out p es (suc n) ≡ i
    → slice_get (filter (λ e. not (p e)) es) k ≡ slice_get es n
kth p [] k i zero s a b = none k
  where
    none : (k : ℕ) → slice_get {X = Event} [] k ≡ None
    none k = refl
kth p [] k i (suc n) s a b = refl
kth p (x ∷ es) k i zero s a b = go (p x) b
  where
    z : k ≡ 0
    z = omega (arith, s)

    go : (t : Bool) → length (cond t (x ∷ []) []) ≡ i
        → slice_get (cond (not t) (x ∷ filter (λ e. not (p e)) es) (filter (λ e. not (p e)) es)) k ≡ Some x
    go true b = absurd (omega (arith, b, s))
    go false b = ap (slice_get (x ∷ filter (λ e. not (p e)) es)) z
kth p (x ∷ es) k i (suc n) s a b = go (λ k i. kth p es k i n) (p x) a b
  where
    first : ((k i : ℕ) → n ≡ k + i → left_out p es n ≡ i → left_out p es (suc n) ≡ i
        → slice_get (filter (λ e. not (p e)) es) k ≡ slice_get es n) → (k : ℕ) → suc n ≡ k + i → left_out p es n ≡ i
        → left_out p es (suc n) ≡ i → slice_get (x ∷ filter (λ e. not (p e)) es) k ≡ slice_get es n
    first f zero s a b = absurd (let m = short p es n in omega (arith, s, a, m))
    first f (suc k) s a b = f k i (omega (arith, s)) a b

    go : ((k i : ℕ) → n ≡ k + i → left_out p es n ≡ i → left_out p es (suc n) ≡ i
        → slice_get (filter (λ e. not (p e)) es) k ≡ slice_get es n) → (t : Bool)
        → length (cond t (x ∷ filter p (take n es)) (filter p (take n es))) ≡ i
        → length (cond t (x ∷ filter p (take (suc n) es)) (filter p (take (suc n) es))) ≡ i
        → slice_get (cond (not t) (x ∷ filter (λ e. not (p e)) es) (filter (λ e. not (p e)) es)) k ≡ slice_get es n
    go f true a b = f k (i - 1) (omega (arith, s, a)) (omega (arith, a)) (omega (arith, b))
    go f false a b = first f k s a b

-- ---- by order

-- where event n stands before the j-th that is left out, at most j of the first n + 1 are
pub stands-before : (p : Event → Bool) (es : List Event) (n j : ℕ) (e h : Event) → IsOrdered es → slice_get es n ≡ Some e
    → slice_get (filter p es) j ≡ Some h → event_before e h ≡ true → left_out p es (suc n) ≤ j
stands-before p [] n j e h o a b l = absurd (cc)
stands-before p (x ∷ es) zero j e h o a b l = go (p x) j b
  where
    same : x ≡ e
    same = cc

    go : (t : Bool) (j : ℕ) → slice_get (cond t (x ∷ filter p es) (filter p es)) j ≡ Some h → length (cond t (x ∷ []) []) ≤ j
    go true zero q = let s : x ≡ h = cc in
        absurd (not-itself x (subst (λ y. event_before x y ≡ true) (sym s) (subst (λ y. event_before y h ≡ true) (sym same) l)))
    go true (suc j) q = omega arith
    go false j q = omega arith
stands-before p (x ∷ es) (suc n) j e h o a b l = go (λ j q. stands-before p es n j e h o.1 a q l) (p x) j b
  where
    go : ((j : ℕ) → slice_get (filter p es) j ≡ Some h → left_out p es (suc n) ≤ j) → (t : Bool) (j : ℕ)
        → slice_get (cond t (x ∷ filter p es) (filter p es)) j ≡ Some h
        → length (cond t (x ∷ filter p (take (suc n) es)) (filter p (take (suc n) es))) ≤ j
    go f true zero q =
        let s : x ≡ h = cc in
        absurd (before-once e x (subst (λ y. event_before e y ≡ true) (sym s) l) (before-in x e es o.0 (is-at es n e a)))
    go f true (suc j) q = let r = f j q in omega (arith, r)
    go f false j q = f j q

-- and where it doesn't, more than j are
pub stands-behind : (p : Event → Bool) (es : List Event) (n j : ℕ) (e h : Event) → IsOrdered es → slice_get es n ≡ Some e
    → slice_get (filter p es) j ≡ Some h → event_before e h ≡ false → j < left_out p es (suc n)
stands-behind p [] n j e h o a b l = absurd (cc)
stands-behind p (x ∷ es) zero j e h o a b l = go (p x) j b
  where
    same : x ≡ e
    same = cc

    behind : (g : List Event) (j : ℕ) → IsBeforeAll x g → slice_get g j ≡ Some h → ⊥
    behind g j f q = let t = subst (λ y. event_before y h ≡ true) same (before-in x h g f (is-at g j h q)) in absurd (cc)

    go : (t : Bool) (j : ℕ) → slice_get (cond t (x ∷ filter p es) (filter p es)) j ≡ Some h → j < length (cond t (x ∷ []) [])
    go true zero q = omega arith
    go true (suc j) q = absurd (behind (filter p es) j (filter-before p x es o.0) q)
    go false j q = absurd (behind (filter p es) j (filter-before p x es o.0) q)
stands-behind p (x ∷ es) (suc n) j e h o a b l = go (λ j q. stands-behind p es n j e h o.1 a q l) (p x) j b
  where
    go : ((j : ℕ) → slice_get (filter p es) j ≡ Some h → j < left_out p es (suc n)) → (t : Bool) (j : ℕ)
        → slice_get (cond t (x ∷ filter p es) (filter p es)) j ≡ Some h
        → j < length (cond t (x ∷ filter p (take (suc n) es)) (filter p (take (suc n) es)))
    go f true zero q = omega arith
    go f true (suc j) q = let r = f j q in omega (arith, r)
    go f false j q = f j q

-- past the end all are among the first ones
pub out-all : (p : Event → Bool) (es : List Event) (n : ℕ) → slice_get es n ≡ None → left_out p es (suc n) ≡ length (filter p es)
out-all p [] n q = refl
out-all p (x ∷ es) zero q = absurd (cc)
out-all p (x ∷ es) (suc n) q = let r = out-all p es n q in go (p x) r
  where
    go : (b : Bool) → left_out p es (suc n) ≡ length (filter p es)
        → length (cond b (x ∷ filter p (take (suc n) es)) (filter p (take (suc n) es))) ≡ length (cond b (x ∷ filter p es) (filter p es))
    go true r = ap suc r
    go false r = r
