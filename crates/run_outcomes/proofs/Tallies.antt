-- Counts of the numbers with a property, one number after another.
use Rattle.std.proofs.Common.{ℕ, zero, suc, ◌≡◌, ◌+◌, ◌<◌, ◌≤◌, Option, Some, None, inl, inr, refl, subst, add-one, arith}
use Rattle.std.proofs.lemmas.Bool.{cases_lt}
use Rattle.run_outcomes.specs.HowMany.{HowMany, IsFirst, or_first}

pub none-yet : (P : ℕ → Type 0) → HowMany P 0 0
unfolding HowMany
none-yet P = refl

pub one-more : (P : ℕ → Type 0) (n count : ℕ) → P n → HowMany P n count → HowMany P (n + 1) (count + 1)
unfolding HowMany
one-more P n count p h = rw (add-one n) (inl (p, (count, h, refl)))

pub no-more : (P : ℕ → Type 0) (n count : ℕ) → (P n → ⊥) → HowMany P n count → HowMany P (n + 1) count
unfolding HowMany
no-more P n count p h = rw (add-one n) (inr (p, h))

pub none-at-all : (P : ℕ → Type 0) (n : ℕ) → ((k : ℕ) → k < n → P k → ⊥) → HowMany P n 0
unfolding HowMany
none-at-all P zero none = refl
none-at-all P (suc n) none =
    inr (none n (omega arith), none-at-all P n (λ k lt. none k (omega (arith, lt))))

pub many-le : (P : ℕ → Type 0) (n count : ℕ) → HowMany P n count → count ≤ n
unfolding HowMany
many-le P zero count h = omega (arith, h)
many-le P (suc n) count h =
    elim h [
      | inl yes' ↦
          let le : yes'.1.0 ≤ n = many-le P n yes'.1.0 yes'.1.1 in
          let is : count ≡ yes'.1.0 + 1 = yes'.1.2 in
          omega (arith, le, is)
      | inr no' ↦ let le : count ≤ n = many-le P n count no'.1 in omega (arith, le)
    ]

-- two properties of the same numbers
pub many-same : (P Q : ℕ → Type 0) (n count : ℕ) → ((k : ℕ) → k < n → P k → Q k) → ((k : ℕ) → k < n → Q k → P k)
    → HowMany P n count → HowMany Q n count
unfolding HowMany
many-same P Q zero count to from h = h
many-same P Q (suc n) count to from h =
    let last : n < suc n = omega arith in
    let to' : (k : ℕ) → k < n → P k → Q k = λ k lt. to k (omega (arith, lt)) in
    let from' : (k : ℕ) → k < n → Q k → P k = λ k lt. from k (omega (arith, lt)) in
    elim h [
      | inl yes' ↦ inl (to n last yes'.0, (yes'.1.0, many-same P Q n yes'.1.0 to' from' yes'.1.1, yes'.1.2))
      | inr no' ↦ inr (λ q. no'.0 (from n last q), many-same P Q n count to' from' no'.1)
    ]

-- the first number with a property, once one number more is known to have it or not
pub first-more : (P : ℕ → Type 0) (n : ℕ) (first : Option ℕ) → P n → IsFirst P n first → IsFirst P (n + 1) (or_first first n)
first-more P n None p none = (omega arith, p, none)
first-more P n (Some k) p h = (omega (arith, h.0), h.1, h.2)

pub first-no-more : (P : ℕ → Type 0) (n : ℕ) (first : Option ℕ) → (P n → ⊥) → IsFirst P n first → IsFirst P (n + 1) first
first-no-more P n None p none = λ k lt q.
    elim (cases_lt k n) [
      | inl below ↦ none k below q
      | inr ge ↦ let at : k ≡ n = omega (arith, ge, lt) in p (subst P at q)
    ]
first-no-more P n (Some k) p h = (omega (arith, h.0), h.1, h.2)

pub first-same : (P Q : ℕ → Type 0) (n : ℕ) (first : Option ℕ) → ((k : ℕ) → k < n → P k → Q k) → ((k : ℕ) → k < n → Q k → P k)
    → IsFirst P n first → IsFirst Q n first
first-same P Q n None to from none = λ k lt q. none k lt (from k lt q)
first-same P Q n (Some first) to from h = (
  h.0,
  to first h.0 h.1,
  λ k lt q. let below : k < n = omega (arith, lt, h.0) in h.2 k lt (from k below q),
)
