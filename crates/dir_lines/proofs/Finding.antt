-- The k-th marked place among the records from a place on.
use Rattle.std.proofs.Common.{◌≡◌, ℕ, suc, ◌+◌, ◌-◌, ◌*◌, ◌<◌, ◌≤◌, Bool, true, false, nat_lt, List, length, slice_get, Some, None, refl}
use Rattle.std.proofs.Common.{ap, sym, ◌∙◌}
use Rattle.std.proofs.Common.{◌⊎◌, inl, inr, get_or, arith}
use Rattle.std.proofs.lemmas.Option.{slice_get_cases}
use borrow.Author.Tests.{ltb-true, ltb-false}
use Rattle.rules_maps.specs.Words.{those, count_below, num}
use Rattle.rules_maps.proofs.Lemmas.{length-those}
use Rattle.base_sums.specs.Falls.{FallsAt}
use Rattle.dir_lines.specs.Record.{Record}
use Rattle.dir_lines.specs.Marking.{marked_at, Counts}
use Rattle.dir_lines.proofs.Marks.{those-nth}
use Rattle.dir_lines.proofs.Places.{those-past}
use Rattle.dir_lines.proofs.Sixteens.{count_below-next, count_below-rises, counts-fall}

-- past some places: so many are left to pass of k from the first one on
pub record Finding (rs : List Record) (from k at left : ℕ) : Type 0 where
  pub before : count_below (marked_at rs) at + left ≡ count_below (marked_at rs) from + k
  pub some : count_below (marked_at rs) at + left < count_below (marked_at rs) (length rs)

pub finds : (rs : List Record) (from k at left : ℕ) → Finding rs from k at left → at < length rs
finds rs from k at left f = by (nat_lt at (length rs)) refl
  where
    by : (b : Bool) → nat_lt at (length rs) ≡ b → at < length rs
    by true e = ltb-true at (length rs) e
    by false e =
        let r : count_below (marked_at rs) (length rs) ≤ count_below (marked_at rs) at =
        count_below-rises (marked_at rs) (length rs) at (ltb-false at (length rs) e) in
        let s = f.some in absurd (omega arith)

pub goes-on : (rs : List Record) (from k at left n : ℕ) → n ≡ num (marked_at rs at) → n ≤ left → Finding rs from k at left
    → Finding rs from k (at + 1) (left - n)
goes-on rs from k at left n e h f =
    let next : count_below (marked_at rs) (at + 1) ≡ count_below (marked_at rs) at + num (marked_at rs at) = more at in
    let b = f.before in let s = f.some in
    record { before = omega arith; some = omega arith }
  where
    more : (i : ℕ) → count_below (marked_at rs) (i + 1) ≡ count_below (marked_at rs) i + num (marked_at rs i)
    more i = let s : i + 1 ≡ suc i = omega arith in ap (count_below (marked_at rs)) s ∙ count_below-next (marked_at rs) i

-- the sixteen in which the k-th falls have it
pub falls-some : (rs : List Record) (counts : List ℕ) (k c into : ℕ) → Counts (marked_at rs) counts → FallsAt counts k c into
    → count_below (marked_at rs) (16 * c) + into < count_below (marked_at rs) (length rs)
falls-some rs counts k c into h f =
    let r = counts-fall (marked_at rs) counts k c into h f in
    let a : count_below (marked_at rs) (16 * c) + into ≡ k = r.0 in
    let b : k < count_below (marked_at rs) (16 * length counts) = r.1 in
    let d : count_below (marked_at rs) (16 * length counts) ≤ count_below (marked_at rs) (length rs) = all in
    omega arith
  where
    all : count_below (marked_at rs) (16 * length counts) ≤ count_below (marked_at rs) (length rs)
    all = by (nat_lt (16 * length counts) (length rs)) refl
      where
        by : (b : Bool) → nat_lt (16 * length counts) (length rs) ≡ b
            → count_below (marked_at rs) (16 * length counts) ≤ count_below (marked_at rs) (length rs)
        by true e =
            let l : 16 * length counts < length rs = ltb-true (16 * length counts) (length rs) e in
            count_below-rises (marked_at rs) (16 * length counts) (length rs) (omega arith)
        by false e =
            let s : count_below (marked_at rs) (16 * length counts) ≡ count_below (marked_at rs) (length rs) =
            sym (length-those (marked_at rs) (16 * length counts))
            ∙ (ap length (those-past rs (16 * length counts) (ltb-false (16 * length counts) (length rs) e))
            ∙ length-those (marked_at rs) (length rs)) in
            omega arith

-- the k-th of the list
pub nth-found : (rs : List Record) (counts : List ℕ) (k c into x : ℕ) → Counts (marked_at rs) counts → FallsAt counts k c into
    → marked_at rs x ≡ true → count_below (marked_at rs) x ≡ count_below (marked_at rs) (16 * c) + into
    → Some x ≡ slice_get (those (marked_at rs) (16 * length counts)) k
nth-found rs counts k c into x h f e b =
    let r = counts-fall (marked_at rs) counts k c into h f in
    let a : count_below (marked_at rs) (16 * c) + into ≡ k = r.0 in
    let l : k < count_below (marked_at rs) (16 * length counts) = r.1 in
    let is : count_below (marked_at rs) x ≡ k = b ∙ a in
    sym (those-nth (marked_at rs) (16 * length counts) x (inside (nat_lt x (16 * length counts)) refl (omega arith)) e)
    ∙ ap (slice_get (those (marked_at rs) (16 * length counts))) is
  where
    inside : (b : Bool) → nat_lt x (16 * length counts) ≡ b
        → count_below (marked_at rs) x < count_below (marked_at rs) (16 * length counts) → x < 16 * length counts
    inside true g lt = ltb-true x (16 * length counts) g
    inside false g lt =
        let r : count_below (marked_at rs) (16 * length counts) ≤ count_below (marked_at rs) x =
        count_below-rises (marked_at rs) (16 * length counts) x (ltb-false x (16 * length counts) g) in
        absurd (omega arith)

-- there is none
pub nth-none : (p : ℕ → Bool) (n k : ℕ) → count_below p n ≤ k → None ≡ slice_get (those p n) k
nth-none p n k h = by (slice_get_cases (those p n) k).1
  where
    by : ((x : ℕ) × (k < length (those p n)) × (slice_get (those p n) k ≡ Some x) × (get_or (those p n) k x ≡ x))
        ⊎ ((length (those p n) ≤ k) × (slice_get (those p n) k ≡ None)) → None ≡ slice_get (those p n) k
    by (inl s) = let lt : k < length (those p n) = s.1 in absurd (omega (arith, length-those p n))
    by (inr s) = sym s.1

-- what isn't below is at most
pub at-most : (s k : ℕ) → (k < s → ⊥) → s ≤ k
at-most s k h = by (nat_lt k s) refl
  where
    by : (b : Bool) → nat_lt k s ≡ b → s ≤ k
    by true e = absurd (h (ltb-true k s e))
    by false e = ltb-false k s e
