-- Counts for each sixteen places: one more, one less, their sum, and where the k-th falls.
use Rattle.std.proofs.Common.{◌≡◌, ℕ, zero, suc, ◌+◌, ◌-◌, ◌*◌, ◌/◌, ◌<◌, ◌≤◌, Bool, true, false, ◌==◌, eqb, nat_lt, if◌then◌else◌}
use Rattle.std.proofs.Common.{List, length, get_or, set, take, sum, length-set, take_all, get_or-set_same, get_or-set_other, refl, ap}
use Rattle.std.proofs.Common.{sym, subst, ◌∙◌, arith}
use Rattle.std.proofs.lemmas.List.Sums.{sum_by_more}
use Rattle.base_lemmas.proofs.Lemmas.{count_below-same, num-most}
use borrow.Author.Tests.{ltb-true, ltb-false, eqb-true, eqb-false}
use Rattle.rules_maps.specs.Words.{put, count_below, num}
use Rattle.base_sums.specs.Falls.{FallsAt}
use Rattle.dir_lines.specs.Marking.{Counts}
use Rattle.dir_lines.proofs.Marks.{put-other, put-own}
use Rattle.dir_lines.proofs.Clearing.{count_below-fewer}

-- a test at a number changes no count below it
below : (p : ℕ → Bool) (x m : ℕ) (b : Bool) → m ≤ x → count_below (put p x b) m ≡ count_below p m
below p x m b h = count_below-same (put p x b) p m (λ k l. put-other p x b k (λ (e : k ≡ x). omega arith))

-- and those above it by one
more : (p : ℕ → Bool) (x m : ℕ) → x < m → p x ≡ false → count_below (put p x true) m ≡ count_below p m + 1
more p x m h e =
    let one : count_below (put (put p x true) x false) m + 1 ≡ count_below (put p x true) m =
    count_below-fewer (put p x true) m x h (put-own p x true) in
    let back : count_below (put (put p x true) x false) m ≡ count_below p m =
    count_below-same (put (put p x true) x false) p m (λ k l. by k (k == x) refl) in
    omega arith
  where
    by : (k : ℕ) (b : Bool) → (k == x) ≡ b → (if b then false else (if b then true else p k)) ≡ p k
    by k true t = sym e ∙ ap p (sym (eqb-true k x t))
    by k false t = refl

pub count_below-next : (p : ℕ → Bool) (n : ℕ) → count_below p (suc n) ≡ count_below p n + num (p n)
unfolding count_below
count_below-next p n = refl

pub count_below-rises : (p : ℕ → Bool) (m n : ℕ) → m ≤ n → count_below p m ≤ count_below p n
unfolding count_below
count_below-rises p m zero h = let z : m ≡ 0 = omega arith in rw z (omega arith)
count_below-rises p m (suc n) h = by (eqb m (suc n)) refl (λ (q : m ≤ n). count_below-rises p m n q)
  where
    by : (b : Bool) → eqb m (suc n) ≡ b → (m ≤ n → count_below p m ≤ count_below p n) → count_below p m ≤ count_below p n + num (p n)
    by true e rest = subst (λ k. count_below p k ≤ count_below p n + num (p n)) (sym (eqb-true m (suc n) e)) (omega arith)
    by false e rest = let r : count_below p m ≤ count_below p n = rest (omega (arith, eqb-false m (suc n) e)) in omega arith

-- each number adds at most one
within : (p : ℕ → Bool) (m n : ℕ) → m ≤ n → count_below p n ≤ count_below p m + (n - m)
unfolding count_below
within p m zero h = omega arith
within p m (suc n) h = by (eqb m (suc n)) refl (λ (q : m ≤ n). within p m n q)
  where
    by : (b : Bool) → eqb m (suc n) ≡ b → (m ≤ n → count_below p n ≤ count_below p m + (n - m))
        → count_below p n + num (p n) ≤ count_below p m + (suc n - m)
    by true e rest = subst (λ k. count_below p n + num (p n) ≤ count_below p k + (suc n - k)) (sym (eqb-true m (suc n) e)) (omega arith)
    by false e rest =
        let l : m ≤ n = omega (arith, eqb-false m (suc n) e) in
        let r : count_below p n ≤ count_below p m + (n - m) = rest l in
        let o : num (p n) ≤ 1 = num-most (p n) in omega arith

pub counts-most : (p : ℕ → Bool) (counts : List ℕ) (c : ℕ) → Counts p counts → c < length counts → get_or counts c 0 ≤ 16
counts-most p counts c h lt =
    let a : count_below p (16 * c) + get_or counts c 0 ≡ count_below p (16 * (c + 1)) = h c lt in
    let b : count_below p (16 * (c + 1)) ≤ count_below p (16 * c) + (16 * (c + 1) - 16 * c) =
    within p (16 * c) (16 * (c + 1)) (omega arith) in
    omega arith

pub counts-some : (p : ℕ → Bool) (counts : List ℕ) (x : ℕ) → Counts p counts → x < 16 * length counts → p x ≡ true
    → 0 < get_or counts (x / 16) 0
counts-some p counts x h lt e =
    let a : count_below p (16 * (x / 16)) + get_or counts (x / 16) 0 ≡ count_below p (16 * (x / 16 + 1)) = h (x / 16) (omega arith) in
    let b : count_below (put p x false) (16 * (x / 16 + 1)) + 1 ≡ count_below p (16 * (x / 16 + 1)) =
    count_below-fewer p (16 * (x / 16 + 1)) x (omega arith) e in
    let d : count_below (put p x false) (16 * (x / 16)) ≡ count_below p (16 * (x / 16)) = below p x (16 * (x / 16)) false (omega arith) in
    let f : count_below (put p x false) (16 * (x / 16)) ≤ count_below (put p x false) (16 * (x / 16 + 1)) =
    count_below-rises (put p x false) (16 * (x / 16)) (16 * (x / 16 + 1)) (omega arith) in
    omega arith

-- where the number stands: before, among or behind sixteen places
side : (x c : ℕ) (P : Type 0) → (x < 16 * c → P) → (16 * c ≤ x → x < 16 * (c + 1) → P) → (16 * (c + 1) ≤ x → P) → P
side x c P before among behind = by (nat_lt x (16 * c)) refl (nat_lt x (16 * (c + 1))) refl
  where
    by : (a : Bool) → nat_lt x (16 * c) ≡ a → (b : Bool) → nat_lt x (16 * (c + 1)) ≡ b → P
    by true f b g = before (ltb-true x (16 * c) f)
    by false f true g = among (ltb-false x (16 * c) f) (ltb-true x (16 * (c + 1)) g)
    by false f false g = behind (ltb-false x (16 * (c + 1)) g)

pub counts-more : (p : ℕ → Bool) (counts : List ℕ) (x : ℕ) → Counts p counts → p x ≡ false
    → Counts (put p x true) (set counts (x / 16) (get_or counts (x / 16) 0 + 1))
counts-more p counts x h e c lt =
    let l : c < length counts = subst (λ n. c < n) (length-set counts (x / 16) (get_or counts (x / 16) 0 + 1)) lt in
    let o : count_below p (16 * c) + get_or counts c 0 ≡ count_below p (16 * (c + 1)) = h c l in
    side x c (count_below (put p x true) (16 * c) + get_or (set counts (x / 16) (get_or counts (x / 16) 0 + 1)) c 0
    ≡ count_below (put p x true) (16 * (c + 1)))
    (λ (q : x < 16 * c).
    let a = more p x (16 * c) q e in
    let b = more p x (16 * (c + 1)) (omega arith) e in
    let g = get_or-set_other counts (x / 16) c (get_or counts (x / 16) 0 + 1) 0 (λ (r : c ≡ x / 16). omega arith) in
    omega (arith, a, b, g))
    (λ (q : 16 * c ≤ x) (r : x < 16 * (c + 1)).
    let a = below p x (16 * c) true q in
    let b = more p x (16 * (c + 1)) r e in
    let s : c ≡ x / 16 = omega arith in
    let g : get_or (set counts c (get_or counts c 0 + 1)) c 0 ≡ get_or counts c 0 + 1 =
    get_or-set_same counts c (get_or counts c 0 + 1) 0 l in
    let k : get_or (set counts (x / 16) (get_or counts (x / 16) 0 + 1)) c 0 ≡ get_or counts c 0 + 1 =
    subst (λ i. get_or (set counts i (get_or counts i 0 + 1)) c 0 ≡ get_or counts c 0 + 1) s g in
    omega (arith, a, b, k))
    (λ (q : 16 * (c + 1) ≤ x).
    let a = below p x (16 * c) true (omega arith) in
    let b = below p x (16 * (c + 1)) true q in
    let g = get_or-set_other counts (x / 16) c (get_or counts (x / 16) 0 + 1) 0 (λ (r : c ≡ x / 16). omega arith) in
    omega (arith, a, b, g))

pub counts-less : (p : ℕ → Bool) (counts : List ℕ) (x : ℕ) → Counts p counts → x < 16 * length counts → p x ≡ true
    → Counts (put p x false) (set counts (x / 16) (get_or counts (x / 16) 0 - 1))
counts-less p counts x h low e c lt =
    let l : c < length counts = subst (λ n. c < n) (length-set counts (x / 16) (get_or counts (x / 16) 0 - 1)) lt in
    let o : count_below p (16 * c) + get_or counts c 0 ≡ count_below p (16 * (c + 1)) = h c l in
    side x c (count_below (put p x false) (16 * c) + get_or (set counts (x / 16) (get_or counts (x / 16) 0 - 1)) c 0
    ≡ count_below (put p x false) (16 * (c + 1)))
    (λ (q : x < 16 * c).
    let a = count_below-fewer p (16 * c) x q e in
    let b = count_below-fewer p (16 * (c + 1)) x (omega arith) e in
    let g = get_or-set_other counts (x / 16) c (get_or counts (x / 16) 0 - 1) 0 (λ (r : c ≡ x / 16). omega arith) in
    omega (arith, a, b, g))
    (λ (q : 16 * c ≤ x) (r : x < 16 * (c + 1)).
    let a = below p x (16 * c) false q in
    let b = count_below-fewer p (16 * (c + 1)) x r e in
    let s : c ≡ x / 16 = omega arith in
    let some : 0 < get_or counts c 0 = subst (λ i. 0 < get_or counts i 0) (sym s) (counts-some p counts x h low e) in
    let g : get_or (set counts c (get_or counts c 0 - 1)) c 0 ≡ get_or counts c 0 - 1 =
    get_or-set_same counts c (get_or counts c 0 - 1) 0 l in
    let k : get_or (set counts (x / 16) (get_or counts (x / 16) 0 - 1)) c 0 ≡ get_or counts c 0 - 1 =
    subst (λ i. get_or (set counts i (get_or counts i 0 - 1)) c 0 ≡ get_or counts c 0 - 1) s g in
    omega (arith, a, b, k))
    (λ (q : 16 * (c + 1) ≤ x).
    let a = below p x (16 * c) false (omega arith) in
    let b = below p x (16 * (c + 1)) false q in
    let g = get_or-set_other counts (x / 16) c (get_or counts (x / 16) 0 - 1) 0 (λ (r : c ≡ x / 16). omega arith) in
    omega (arith, a, b, g))

counts-first : (p : ℕ → Bool) (counts : List ℕ) (c : ℕ) → Counts p counts → c ≤ length counts → sum (take c counts) ≡ count_below p (16 * c)
unfolding count_below
counts-first p counts zero h l = refl
counts-first p counts (suc c) h l =
    let before : sum (take c counts) ≡ count_below p (16 * c) = counts-first p counts c h (omega arith) in
    let one : suc c ≡ c + 1 = omega arith in
    ap (λ n. sum (take n counts)) one
    ∙ (sum_by_more (λ x. x) counts c 0 (omega arith)
    ∙ (ap (λ k. k + get_or counts c 0) before ∙ (h c (omega arith) ∙ ap (λ n. count_below p (16 * n)) (sym one))))

pub counts-sum : (p : ℕ → Bool) (counts : List ℕ) → Counts p counts → sum counts ≡ count_below p (16 * length counts)
counts-sum p counts h =
    ap (λ l. sum l) (sym (take_all (length counts) counts (omega arith))) ∙ counts-first p counts (length counts) h (omega arith)

-- the k-th falls in these sixteen: so many stand before them, and k is below the number of all
pub counts-fall : (p : ℕ → Bool) (counts : List ℕ) (k c into : ℕ) → Counts p counts → FallsAt counts k c into
    → (count_below p (16 * c) + into ≡ k) × (k < count_below p (16 * length counts))
counts-fall p counts k c into h f =
    let lt : c < length counts = f.exists in
    let first : sum (take c counts) ≡ count_below p (16 * c) = counts-first p counts c h (omega arith) in
    let own : count_below p (16 * c) + get_or counts c 0 ≡ count_below p (16 * (c + 1)) = h c lt in
    let rest : count_below p (16 * (c + 1)) ≤ count_below p (16 * length counts) =
    count_below-rises p (16 * (c + 1)) (16 * length counts) (omega arith) in
    let before : k ≡ sum (take c counts) + into = f.before in
    let inside : into < get_or counts c 0 = f.within in
    (omega arith, omega arith)
