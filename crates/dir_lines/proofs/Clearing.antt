-- Clearing the marks one by one: what the others are, how many are left, and when none is.
use Rattle.std.proofs.Common.{◌≡◌, ℕ, zero, suc, ◌+◌, ◌<◌, ◌≤◌, Bool, true, false, ◌==◌, eqb, nat_lt, if◌then◌else◌, List, length, get_or}
use Rattle.std.proofs.Common.{slice_get, Some, None, Contains, ◌⊎◌, inl, inr, refl, ap, sym, subst, ◌∙◌, arith}
use Rattle.std.proofs.lemmas.Option.{slice_get_cases}
use Rattle.std.proofs.lemmas.List.Elements.{Contains-get_or}
use Rattle.base_lemmas.proofs.Lemmas.{count_below-same}
use borrow.Author.Tests.{eqb-true, eqb-false, ne_eqb, ltb-false}
use Rattle.rules_maps.specs.Words.{put, those, count_below, num}
use Rattle.rules_maps.specs.Shape.{lines}
use Rattle.rules_maps.specs.Lines.{Lines, with_mark, unmarked, has_mark}
use Rattle.rules_maps.proofs.Lemmas.{length-those, those-only}
use Rattle.dir_lines.specs.Home.{Home, IsAtHome}

-- one fewer
pub count_below-fewer : (p : ℕ → Bool) (n l : ℕ) → l < n → p l ≡ true → count_below (put p l false) n + 1 ≡ count_below p n
unfolding count_below
count_below-fewer p zero l a e = absurd (omega arith)
count_below-fewer p (suc n) l a e = by (eqb n l) refl (λ (q : l < n). count_below-fewer p n l q e)
  where
    by : (b : Bool) → eqb n l ≡ b → (l < n → count_below (put p l false) n + 1 ≡ count_below p n)
        → count_below (put p l false) n + num (put p l false n) + 1 ≡ count_below p n + num (p n)
    by true f rest =
        let same : n ≡ l = eqb-true n l f in
        let x : num (p n) ≡ 1 = ap (λ k. num (p k)) same ∙ ap num e in
        let y : num (put p l false n) ≡ 0 = ap (λ b. num (if b then false else p n)) f in
        let z : count_below (put p l false) n ≡ count_below p n =
        count_below-same (put p l false) p n (λ k q. ap (λ b. if b then false else p k) (ne_eqb k l (λ (r : k ≡ l). omega arith))) in
        omega arith
    by false f rest =
        let y : num (put p l false n) ≡ num (p n) = ap (λ b. num (if b then false else p n)) f in
        let z : count_below (put p l false) n + 1 ≡ count_below p n = rest (omega (arith, eqb-false n l f)) in
        omega arith

pub count_below-none : (p : ℕ → Bool) (n k : ℕ) → count_below p n ≡ 0 → k < n → p k ≡ false
unfolding count_below
count_below-none p zero k e a = absurd (omega arith)
count_below-none p (suc n) k e a = by (eqb k n) refl (λ (q : k < n). count_below-none p n k (omega arith) q)
  where
    off : (b : Bool) → num b ≡ 0 → b ≡ false
    off true f = absurd (omega arith)
    off false f = refl

    by : (b : Bool) → eqb k n ≡ b → (k < n → p k ≡ false) → p k ≡ false
    by true f rest = ap p (eqb-true k n f) ∙ off (p n) (omega arith)
    by false f rest = rest (omega (arith, eqb-false k n f))

-- what holds while marks are cleared: as many are left, each of a line of the home, and all else is as at the start
pub record IsClearing (h : Home) (start now : Lines) (left : ℕ) : Type 0 where
  pub others : unmarked now ≡ unmarked start
  pub count : count_below (has_mark now) (lines h.shape) ≡ left
  pub at_home : (l : ℕ) → has_mark now l ≡ true → IsAtHome h l

-- the k-th item is in the list
pub found : (xs : List ℕ) (k l : ℕ) → slice_get xs k ≡ Some l → Contains xs l
found xs k l f = by (slice_get_cases xs k).1
  where
    by : ((x : ℕ) × (k < length xs) × (slice_get xs k ≡ Some x) × (get_or xs k x ≡ x)) ⊎ ((length xs ≤ k) × (slice_get xs k ≡ None))
        → Contains xs l
    by (inl s) = let g : slice_get xs k ≡ Some s.0 = s.2 in let q : s.0 ≡ l = cc in
        subst (Contains xs) (s.3 ∙ q) (Contains-get_or xs k s.0 s.1)
    by (inr s) = let g : slice_get xs k ≡ None = s.1 in cc

-- the last marked line that is left
pub clearing-line : (h : Home) (start now : Lines) (left k l : ℕ) → IsClearing h start now left → left ≡ suc k
    → slice_get (those (has_mark now) (lines h.shape)) k ≡ Some l
    → (has_mark now l ≡ true) × IsAtHome h l
clearing-line h start now left k l c e f =
    let m : has_mark now l ≡ true = (those-only (has_mark now) (lines h.shape) l (found (those (has_mark now) (lines h.shape)) k l f)).1 in
    (m, c.at_home l m)

pub clearing-some : (h : Home) (start now : Lines) (left k : ℕ) → IsClearing h start now left → left ≡ suc k
    → slice_get (those (has_mark now) (lines h.shape)) k ≡ None → ⊥
clearing-some h start now left k c e f = past (slice_get_cases (those (has_mark now) (lines h.shape)) k).1
  where
    past : ((x : ℕ) × (k < length (those (has_mark now) (lines h.shape))) × (slice_get (those (has_mark now) (lines h.shape)) k ≡ Some x)
        × (get_or (those (has_mark now) (lines h.shape)) k x ≡ x))
        ⊎ ((length (those (has_mark now) (lines h.shape)) ≤ k) × (slice_get (those (has_mark now) (lines h.shape)) k ≡ None)) → ⊥
    past (inl s) = let g = s.2 in cc
    past (inr s) = omega (arith, s.0, e, c.count, length-those (has_mark now) (lines h.shape))

has_mark-with_mark : (l : ℕ) (d : Lines) → has_mark (with_mark l 0 d) ≡ put (has_mark d) l false
unfolding with_mark
has_mark-with_mark l d = λ i j. by (j == l) (d.mark j) i
  where
    by : (b : Bool) (m : ℕ) → nat_lt 0 (if b then 0 else m) ≡ (if b then false else nat_lt 0 m)
    by true m = refl
    by false m = refl

unmarked-with_mark : (l : ℕ) (d : Lines) → unmarked (with_mark l 0 d) ≡ unmarked d
unfolding with_mark unmarked
unmarked-with_mark l d = refl

-- one mark is cleared
pub clearing-next : (h : Home) (start now next : Lines) (left k l : ℕ) → IsClearing h start now left → left ≡ suc k → has_mark now l ≡ true
    → next ≡ with_mark l 0 now → IsClearing h start next k
clearing-next h start now next left k l c e m f = subst (λ d. IsClearing h start d k) (sym f) (record {
  others = unmarked-with_mark l now ∙ c.others;
  count =
      let a : count_below (has_mark (with_mark l 0 now)) (lines h.shape) ≡ count_below (put (has_mark now) l false) (lines h.shape) =
      ap (λ p. count_below p (lines h.shape)) (has_mark-with_mark l now) in
      let b : count_below (put (has_mark now) l false) (lines h.shape) + 1 ≡ count_below (has_mark now) (lines h.shape) =
      count_below-fewer (has_mark now) (lines h.shape) l ((c.at_home l m).0) m in
      omega (arith, c.count);
  at_home = λ j t. c.at_home j (kept j (j == l) (sym (ap (λ p. p j) (has_mark-with_mark l now)) ∙ t));
})
  where
    kept : (j : ℕ) (b : Bool) → (if b then false else has_mark now j) ≡ true → has_mark now j ≡ true
    kept j true t = cc
    kept j false t = t

-- none is left
pub clearing-done : (h : Home) (start now : Lines) → IsClearing h start now 0 → now ≡ unmarked start
unfolding unmarked
clearing-done h start now c = (λ i. record now { mark = λ l. none l i }) ∙ c.others
  where
    off : (m : ℕ) → nat_lt 0 m ≡ false → m ≡ 0
    off m f = omega (arith, ltb-false 0 m f)

    by : (l : ℕ) (b : Bool) → has_mark now l ≡ b → now.mark l ≡ 0
    by l false f = off (now.mark l) f
    by l true f = absurd (clash (count_below-none (has_mark now) (lines h.shape) l c.count ((c.at_home l f).0)))
      where
        clash : has_mark now l ≡ false → ⊥
        clash g = cc

    none : (l : ℕ) → now.mark l ≡ 0
    none l = by l (has_mark now l) refl
