-- The first of the events that a test lets through, found by looking at one place after another.
use Rattle.std.proofs.Common.{◌≡◌, ℕ, zero, suc, ◌+◌, ◌≤◌, Bool, true, false, cond, List, [], ◌∷◌, length, take, Some, None}
use Rattle.std.proofs.Common.{refl, ap, sym, ◌∙◌, arith, add-one, inl, inr, ⊎_elim}
use Rattle.std.specs.Prelude.{filter, slice_get}
use Rattle.rules_maps.specs.Nodes.{Event}
use Rattle.rules_tcc.specs.Laws.{IsIn}

-- none of the first n passes
abbrev pub NonePass : (Event → Bool) → (n : ℕ) → List Event → Type 0
NonePass p n es = filter p (take n es) ≡ []

-- the first one doesn't, so those behind it do or don't
dropped : (b : Bool) (x : Event) (es : List Event) → cond b (x ∷ es) es ≡ [] → es ≡ []
dropped true x es h = absurd (cc)
dropped false x es h = h

passed : (b : Bool) (x : Event) (es : List Event) → cond b (x ∷ es) es ≡ [] → b ≡ false
passed true x es h = absurd (cc)
passed false x es h = refl

-- the next one doesn't pass either
none-more : (p : Event → Bool) (es : List Event) (n : ℕ) (e : Event) → NonePass p n es → slice_get es n ≡ Some e → p e ≡ false
    → NonePass p (suc n) es
none-more p [] n e h at f = absurd (cc)
none-more p (x ∷ es) zero e h at f = let q : p x ≡ false = cc in rw q refl
none-more p (x ∷ es) (suc n) e h at f =
    let q : p x ≡ false = passed (p x) x (filter p (take n es)) h in
    rw q (none-more p es n e (dropped (p x) x (filter p (take n es)) h) at f)

pub none-next : (p : Event → Bool) (es : List Event) (n : ℕ) (e : Event) → NonePass p n es → slice_get es n ≡ Some e → p e ≡ false
    → NonePass p (n + 1) es
none-next p es n e h at f = rw add-one (none-more p es n e h at f)

-- or it is the first one that does
pub first-is : (p : Event → Bool) (es : List Event) (n : ℕ) (e : Event) → NonePass p n es → slice_get es n ≡ Some e → p e ≡ true
    → slice_get (filter p es) 0 ≡ Some e
first-is p [] n e h at t = absurd (cc)
first-is p (x ∷ es) zero e h at t = let q : p x ≡ true = cc in rw q at
first-is p (x ∷ es) (suc n) e h at t =
    let q : p x ≡ false = passed (p x) x (filter p (take n es)) h in
    rw q (first-is p es n e (dropped (p x) x (filter p (take n es)) h) at t)

-- where all were looked at none of them passes
pub none-passes : (p : Event → Bool) (es : List Event) (n : ℕ) (e : Event) → NonePass p n es → length es ≤ n → IsIn e es → p e ≡ true → ⊥
none-passes p [] n e h l i t = i
none-passes p (x ∷ es) zero e h l i t = omega (arith, l)
none-passes p (x ∷ es) (suc n) e h l i t =
    let q : p x ≡ false = passed (p x) x (filter p (take n es)) h in
    ⊎_elim (λ (s : x ≡ e). let w : p e ≡ false = ap p (sym s) ∙ q in absurd (cc))
    (λ k. none-passes p es n e (dropped (p x) x (filter p (take n es)) h) (omega (arith, l)) k t) i

pub all-dropped : (p : Event → Bool) (es : List Event) (n : ℕ) → NonePass p n es → length es ≤ n → filter p es ≡ []
all-dropped p [] n h l = refl
all-dropped p (x ∷ es) zero h l = absurd (omega (arith, l))
all-dropped p (x ∷ es) (suc n) h l =
    let q : p x ≡ false = passed (p x) x (filter p (take n es)) h in
    rw q (all-dropped p es n (dropped (p x) x (filter p (take n es)) h) (omega (arith, l)))

-- ---- by number

pub is-at : (es : List Event) (n : ℕ) (e : Event) → slice_get es n ≡ Some e → IsIn e es
is-at [] n e at = absurd (cc)
is-at (x ∷ es) zero e at = inl (cc)
is-at (x ∷ es) (suc n) e at = inr (is-at es n e at)

pub is-past : (es : List Event) (n : ℕ) → slice_get es n ≡ None → length es ≤ n
is-past [] n e = omega arith
is-past (x ∷ es) zero e = absurd (cc)
is-past (x ∷ es) (suc n) e = let r = is-past es n e in omega (arith, r)

pub are-none : (es : List Event) → slice_get es 0 ≡ None → es ≡ []
are-none [] e = refl
are-none (x ∷ es) e = absurd (cc)
