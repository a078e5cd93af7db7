-- How many lines are at home at a directory, and that fewer are marked where one of them isn't.
use Rattle.std.proofs.Common.{◌≡◌, ℕ, zero, suc, ◌+◌, ◌*◌, ◌/◌, ◌%◌, ◌<◌, ◌≤◌, Bool, true, false, ◌==◌, eqb, nat_lt, if◌then◌else◌, refl}
use Rattle.std.proofs.Common.{ap, subst, ◌∙◌, arith}
use Rattle.std.proofs.lemmas.Bool.Decides.{nat_tests}
use borrow.Author.Tests.{ltb-true, ltb-false, eqb-true, eqb-false}
use Rattle.std.proofs.Math.Nat.{mod-add-div', mod-lt, mul-add-mod_self_right, mod-eq_of_lt, mul-le-mul_right}
use Rattle.rules_maps.specs.Words.{count_below, num}

-- some of the numbers with h have p
pub count_below-le : (p h : ℕ → Bool) (n : ℕ) → ((k : ℕ) → p k ≡ true → h k ≡ true) → count_below p n ≤ count_below h n
unfolding count_below
count_below-le p h zero sub = omega arith
count_below-le p h (suc n) sub =
    let rest : count_below p n ≤ count_below h n = count_below-le p h n sub in
    let own : num (p n) ≤ num (h n) = by (p n) (h n) (sub n) in omega arith
  where
    by : (a b : Bool) → (a ≡ true → b ≡ true) → num a ≤ num b
    by true true f = omega arith
    by true false f = absurd (cc (f refl))
    by false true f = omega arith
    by false false f = omega arith

-- and one that has h doesn't have p
pub count_below-lt : (p h : ℕ → Bool) (n l : ℕ) → ((k : ℕ) → p k ≡ true → h k ≡ true) → l < n → h l ≡ true → p l ≡ false
    → count_below p n < count_below h n
unfolding count_below
count_below-lt p h zero l sub a b c = absurd (omega arith)
count_below-lt p h (suc n) l sub a b c = by (eqb l n) refl (λ (q : l < n). count_below-lt p h n l sub q b c)
  where
    own : (a b : Bool) → (a ≡ true → b ≡ true) → num a ≤ num b
    own true true f = omega arith
    own true false f = absurd (cc (f refl))
    own false true f = omega arith
    own false false f = omega arith

    by : (e : Bool) → eqb l n ≡ e → (l < n → count_below p n < count_below h n) → count_below p n + num (p n) < count_below h n + num (h n)
    by true e rest =
        let same : l ≡ n = eqb-true l n e in
        let rest : count_below p n ≤ count_below h n = count_below-le p h n sub in
        let x : num (p n) ≡ 0 = ap num (subst (λ k. p k ≡ false) same c) in
        let y : num (h n) ≡ 1 = ap num (subst (λ k. h k ≡ true) same b) in omega arith
    by false e rest =
        let r : count_below p n < count_below h n = rest (omega (arith, eqb-false l n e)) in
        let o : num (p n) ≤ num (h n) = own (p n) (h n) (sub n) in omega arith

-- one more row of d numbers, of which the first r are looked at
row : (d h q x r : ℕ) → x ≡ q * d → r ≤ d → count_below (λ l. l % d == h) (x + r) ≡ count_below (λ l. l % d == h) x + num (nat_lt h r)
unfolding count_below
row d h q x zero e le = let z : x + 0 ≡ x = omega arith in let f : num (nat_lt h 0) ≡ 0 = grind (arith, nat_tests) in rw z (omega arith)
row d h q x (suc r) e le =
    let z : x + suc r ≡ suc (x + r) = omega arith in
    let before : count_below (λ l. l % d == h) (x + r) ≡ count_below (λ l. l % d == h) x + num (nat_lt h r) =
    row d h q x r e (omega arith) in
    let m : (x + r) % d ≡ r = ap (λ k. (k + r) % d) e ∙ (mul-add-mod_self_right q d r ∙ mod-eq_of_lt (omega arith)) in
    let one : num (nat_lt h r) + num (r == h) ≡ num (nat_lt h (suc r)) = grind (arith, nat_tests) in
    rw z (rw m (omega arith))

rows : (d h q x : ℕ) → h < d → x ≡ q * d → count_below (λ l. l % d == h) x ≡ q
unfolding count_below
rows d h zero x lt e = let z : x ≡ 0 = e ∙ omega arith in rw z refl
rows d h (suc q) x lt e =
    let f : x ≡ q * d + d = e ∙ omega arith in
    let one : num (nat_lt h d) ≡ 1 = grind (arith, nat_tests) in
    let r : count_below (λ l. l % d == h) (q * d + d) ≡ count_below (λ l. l % d == h) (q * d) + num (nat_lt h d) =
    row d h q (q * d) d refl (omega arith) in
    let before : count_below (λ l. l % d == h) (q * d) ≡ q = rows d h q (q * d) lt refl in
    rw f (omega arith)

-- the lines that are at home at directory h of d
pub count_below-home : (n d h : ℕ) → h < d → count_below (λ l. l % d == h) n ≡ n / d + (if nat_lt h (n % d) then 1 else 0)
count_below-home n d h lt =
    let split : n ≡ n / d * d + n % d = omega (arith, mod-add-div' n d) in
    let small : n % d < d = mod-lt n (omega arith) in
    let one : num (nat_lt h (n % d)) ≡ (if nat_lt h (n % d) then 1 else 0) = refl in
    ap (count_below (λ l. l % d == h)) split
    ∙ (row d h (n / d) (n / d * d) (n % d) refl (omega arith)
    ∙ ap (λ k. k + num (nat_lt h (n % d))) (rows d h (n / d) (n / d * d) lt refl))

-- a line of the home stands below their number
pub place-bound : (n d h l : ℕ) → h < d → l < n → l % d ≡ h → l / d < n / d + (if nat_lt h (n % d) then 1 else 0)
place-bound n d h l lt a e = by (nat_lt (l / d) (n / d)) refl (nat_lt (n / d) (l / d)) refl (nat_lt h (n % d)) refl
  where
    ln : l % d + l / d * d ≡ l
    ln = mod-add-div' l d

    nn : n % d + n / d * d ≡ n
    nn = mod-add-div' n d

    small : n % d < d
    small = mod-lt n (omega arith)

    above : n / d < l / d → ⊥
    above q =
        let m : (n / d + 1) * d ≤ l / d * d = mul-le-mul_right d (omega arith) in
        let s : (n / d + 1) * d ≡ n / d * d + d = omega arith in
        let x : n % d + n / d * d ≡ n = nn in let y : l % d + l / d * d ≡ l = ln in let z : n % d < d = small in
        omega arith

    same : l / d ≡ n / d → h < n % d
    same q =
        let s : l / d * d ≡ n / d * d = ap (λ k. k * d) q in
        let x : n % d + n / d * d ≡ n = nn in let y : l % d + l / d * d ≡ l = ln in
        omega arith

    by : (p : Bool) → nat_lt (l / d) (n / d) ≡ p → (q : Bool) → nat_lt (n / d) (l / d) ≡ q → (r : Bool) → nat_lt h (n % d) ≡ r
        → l / d < n / d + (if r then 1 else 0)
    by true f q g true k = omega (arith, ltb-true (l / d) (n / d) f)
    by true f q g false k = omega (arith, ltb-true (l / d) (n / d) f)
    by false f true g r k = absurd (above (ltb-true (n / d) (l / d) g))
    by false f false g true k = omega (arith, ltb-false (l / d) (n / d) f, ltb-false (n / d) (l / d) g)
    by false f false g false k =
        let t : l / d ≡ n / d = omega (arith, ltb-false (l / d) (n / d) f, ltb-false (n / d) (l / d) g) in
        let u : h < n % d = same t in
        let v : n % d ≤ h = ltb-false h (n % d) k in
        absurd (omega arith)
