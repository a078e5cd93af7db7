-- An ordered set of TIDs against the flags that it stands for.
use Rattle.std.proofs.Common.{◌≡◌, ℕ, zero, suc, ◌+◌, ◌-◌, ◌^◌, ◌<◌, ◌≤◌, Bool, true, false, List, [], ◌∷◌, Some, length, slice_get, refl}
use Rattle.std.proofs.Common.{ap, sym, ◌∙◌, arith, nat_lt, eqb, cond}
use Rattle.std.specs.Ordering.{nat_cmp, match_ordering}
use Rattle.std.specs.declared.cmp.Ordering.TheVariants.{Less, Equal, Greater}
use borrow.Author.Tests.{ltb-true, ltb-false, eqb-true, eqb-false}
use Rattle.std.specs.BTreeSet.{insert_key}
use Rattle.rules_maps.specs.Serving.{serve_from, skip_at, skipped}
use Rattle.skip_vector.specs.Window.{clear_before, window, Rises}
use Rattle.skip_vector.proofs.Flags.{serve_from-none, serve_from-clear, serve_from-set, advance-serve_from, skipped-lower, skipped-served}
use Rattle.skip_vector.proofs.Flags.{skipped-higher}

-- the flag after some clear ones, before the end of the clear ones, and behind them
pub skip_at-clear_before-lower : (j n m : ℕ) (xs : List Bool) → n ≡ j + suc m
    → skip_at j (clear_before n xs) ≡ clear_before j (true ∷ clear_before m xs)
unfolding skip_at clear_before
skip_at-clear_before-lower zero n m xs e = rw (let f : n ≡ suc m = omega arith in f) refl
skip_at-clear_before-lower (suc j) zero m xs e = absurd (omega arith)
skip_at-clear_before-lower (suc j) (suc n) m xs e = ap (λ ys. false ∷ ys) (skip_at-clear_before-lower j n m xs (omega arith))

pub skip_at-clear_before-higher : (j n m : ℕ) (xs : List Bool) → j ≡ n + m → skip_at j (clear_before n xs) ≡ clear_before n (skip_at m xs)
unfolding skip_at clear_before
skip_at-clear_before-higher j zero m xs e = ap (λ k. skip_at k xs) (let f : j ≡ m = omega arith in f)
skip_at-clear_before-higher zero (suc n) m xs e = absurd (omega arith)
skip_at-clear_before-higher (suc j) (suc n) m xs e = ap (λ ys. false ∷ ys) (skip_at-clear_before-higher j n m xs (omega arith))

pub skip_at-first : (b : Bool) (xs : List Bool) → skip_at 0 (b ∷ xs) ≡ true ∷ xs
unfolding skip_at
skip_at-first b xs = refl

pub skip_at-later : (j k : ℕ) (b : Bool) (xs : List Bool) → k ≡ suc j → skip_at k (b ∷ xs) ≡ b ∷ skip_at j xs
unfolding skip_at
skip_at-later j k b xs e = rw e refl

-- a served TID that was skipped, and one that was not
pub window-served : (s : ℕ) (ts : List ℕ) → window s (s ∷ ts) ≡ true ∷ window (s + 1) ts
unfolding window clear_before
window-served s ts = let z : s - s ≡ 0 = omega arith in rw z refl

pub serve_from-window_none : (s : ℕ) → serve_from s (window s []) ≡ record { serving = s; skips = window (s + 1) [] }
unfolding window
serve_from-window_none s = serve_from-none s

pub serve_from-window_later : (s t n : ℕ) (ts : List ℕ) → t ≡ s + suc n
    → serve_from s (window s (t ∷ ts)) ≡ record { serving = s; skips = window (s + 1) (t ∷ ts) }
unfolding window clear_before
serve_from-window_later s t n ts e =
    let a : t - s ≡ suc n = omega arith in
    let b : t - (s + 1) ≡ n = omega arith in
    rw (a, b) (serve_from-clear s (clear_before n (true ∷ window (t + 1) ts)))

-- where the served TID is not the first that was skipped, it stays
pub serve_from-window_stays : (s : ℕ) (ts : List ℕ) → Rises s ts → (slice_get ts 0 ≡ Some s → ⊥)
    → serve_from s (window s ts) ≡ record { serving = s; skips = window (s + 1) ts }
unfolding Rises
serve_from-window_stays s [] h away = serve_from-window_none s
serve_from-window_stays s (t ∷ ts) h away = by (eqb t s) refl
  where
    by : (b : Bool) → eqb t s ≡ b → serve_from s (window s (t ∷ ts)) ≡ record { serving = s; skips = window (s + 1) (t ∷ ts) }
    by true e = absurd (away (ap (λ k. Some k) (eqb-true t s e)))
    by false e = serve_from-window_later s t (t - s - 1) ts (omega (arith, eqb-false t s e, h.0))

pub Rises-rest : (s : ℕ) (ts : List ℕ) → Rises s (s ∷ ts) → (s < 2 ^ 62) × Rises (s + 1) ts
unfolding Rises
Rises-rest s ts h = (h.1, h.2)

pub Rises-other : (s : ℕ) (ts : List ℕ) → Rises s ts → (slice_get ts 0 ≡ Some s → ⊥) → Rises (s + 1) ts
unfolding Rises
Rises-other s [] h away = tt
Rises-other s (t ∷ ts) h away = by (eqb t s) refl
  where
    by : (b : Bool) → eqb t s ≡ b → (s + 1 ≤ t) × (t < 2 ^ 62) × Rises (t + 1) ts
    by true e = absurd (away (ap (λ k. Some k) (eqb-true t s e)))
    by false e = (omega (arith, eqb-false t s e, h.0), h.1, h.2)

-- a new TID in the set
pub Rises-insert_key : (s k : ℕ) (ts : List ℕ) → Rises s ts → s ≤ k → k < 2 ^ 62 → Rises s (insert_key nat_cmp ts k)
unfolding Rises
Rises-insert_key s k [] h a b = (a, b, tt)
Rises-insert_key s k (t ∷ ts) h a b = by (nat_lt k t) refl (eqb k t) refl (λ (above : t + 1 ≤ k). Rises-insert_key (t + 1) k ts h.2 above b)
  where
    by : (p : Bool) → nat_lt k t ≡ p → (q : Bool) → eqb k t ≡ q → (t + 1 ≤ k → Rises (t + 1) (insert_key nat_cmp ts k))
        → Rises s (match_ordering (cond p Less (cond q Equal Greater)) (k ∷ t ∷ ts) (t ∷ ts) (t ∷ insert_key nat_cmp ts k))
    by true e q f rest = (a, b, (omega (arith, ltb-true k t e), h.1, h.2))
    by false e true f rest = h
    by false e false f rest = (h.0, h.1, rest (omega (arith, ltb-false k t e, eqb-false k t f)))

pub skip_at-nil : (j : ℕ) → skip_at j [] ≡ clear_before j (true ∷ [])
unfolding skip_at clear_before
skip_at-nil zero = refl
skip_at-nil (suc j) = ap (λ ys. false ∷ ys) (skip_at-nil j)

-- and its flag in the list
pub window-insert_key : (s k : ℕ) (ts : List ℕ) → Rises s ts → s ≤ k → window s (insert_key nat_cmp ts k) ≡ skip_at (k - s) (window s ts)
unfolding window Rises
window-insert_key s k [] h a = sym (skip_at-nil (k - s))
window-insert_key s k (t ∷ ts) h a = by (nat_lt k t) refl (eqb k t) refl (λ (above : t + 1 ≤ k). window-insert_key (t + 1) k ts h.2 above)
  where
    by : (p : Bool) → nat_lt k t ≡ p → (q : Bool) → eqb k t ≡ q
        → (t + 1 ≤ k → window (t + 1) (insert_key nat_cmp ts k) ≡ skip_at (k - (t + 1)) (window (t + 1) ts))
        → window s (match_ordering (cond p Less (cond q Equal Greater)) (k ∷ t ∷ ts) (t ∷ ts) (t ∷ insert_key nat_cmp ts k)) ≡ skip_at
        (k - s) (clear_before (t - s) (true ∷ window (t + 1) ts))
    by true e q f same =
        sym (skip_at-clear_before-lower (k - s) (t - s) (t - (k + 1)) (true ∷ window (t + 1) ts) (omega (arith, ltb-true k t e)))
    by false e true f same =
        sym (skip_at-clear_before-higher (k - s) (t - s) 0 (true ∷ window (t + 1) ts) (omega (arith, eqb-true k t f))
        ∙ ap (clear_before (t - s)) (skip_at-first true (window (t + 1) ts)))
    by false e false f same =
        ap (λ ys. clear_before (t - s) (true ∷ ys)) (same (omega (arith, ltb-false k t e, eqb-false k t f)))
        ∙ sym (skip_at-clear_before-higher (k - s) (t - s) (k - t) (true ∷ window (t + 1) ts) (omega (arith, ltb-false k t e, h.0))
        ∙ ap (clear_before (t - s))
        (skip_at-later (k - (t + 1)) (k - t) true (window (t + 1) ts) (omega (arith, ltb-false k t e, eqb-false k t f))))

-- a skip of a later TID is an insertion
pub skipped-insert_key : (s k : ℕ) (ts : List ℕ) → Rises (s + 1) ts → s < k
    → skipped k (record { serving = s; skips = window (s + 1) ts })
    ≡ record { serving = s; skips = window (s + 1) (insert_key nat_cmp ts k) }
skipped-insert_key s k ts h a =
    let e : k - s - 1 ≡ k - (s + 1) = omega arith in
    skipped-higher k (record { serving = s; skips = window (s + 1) ts }) a
    ∙ ap (λ xs. record { serving = s; skips = xs })
    (ap (λ j. skip_at j (window (s + 1) ts)) e ∙ sym (window-insert_key (s + 1) k ts h (omega arith)))

-- all flags are of TIDs that can be skipped
length-clear_before : (n : ℕ) (xs : List Bool) → length (clear_before n xs) ≡ n + length xs
unfolding clear_before
length-clear_before zero xs = omega arith
length-clear_before (suc n) xs = omega (arith, length-clear_before n xs)

pub window-bound : (s : ℕ) (ts : List ℕ) → Rises s ts → s ≤ 2 ^ 62 → s + length (window s ts) ≤ 2 ^ 62
unfolding Rises window
window-bound s [] h b = omega arith
window-bound s (t ∷ ts) h b =
    omega (arith, window-bound (t + 1) ts h.2 (omega (arith, h.1)), length-clear_before (t - s) (true ∷ window (t + 1) ts), h.0, h.1)

pub ruleset window_steps = (window-served, serve_from-window_stays, serve_from-set, advance-serve_from, Rises-rest, Rises-other)

pub ruleset skip_cases = (skipped-lower, skipped-served, skipped-insert_key, Rises-insert_key)
