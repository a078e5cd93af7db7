-- Tests over all numbers below a bound, and the list of those that pass one.
use Rattle.std.proofs.Common.{◌≡◌, ℕ, suc, zero, ◌<◌, Bool, true, false, cond, ⊎_elim, [], ◌∷◌, ◌++◌, Option, Some, None, length, get_or}
use Rattle.std.proofs.Common.{length-append, append-nil, refl, ap, ◌∙◌, sym, arith}
use Rattle.std.proofs.lemmas.Bool.{cases_eq, or_cases}
use Rattle.std.proofs.lemmas.Bool.Decides.{nat_tests}
use Rattle.std.proofs.lemmas.List.Elements.{Contains-append_left, Contains-push, Contains-push_cases, Contains-get_or}
use Rattle.std.proofs.lemmas.List.Quantifiers.{all_pairs_push}
use Rattle.std.specs.List.{Contains, AllPairs}
use Rattle.std.specs.Prelude.{MatchOption}
use Rattle.rules_maps.specs.Words.{any_below, all_below, count_below, those, lowest, or_else}

pub length-those : (p : ℕ → Bool) (n : ℕ) → length (those p n) ≡ count_below p n
unfolding those count_below
length-those p zero = refl
length-those p (suc n) = rw (length-append, length-those p n) (grind (arith, nat_tests))

-- a number that is found is below the bound and passes the test, and each such number is found
pub any_below-found : (p : ℕ → Bool) (n : ℕ) → any_below p n ≡ true → (k : ℕ) × (k < n) × (p k ≡ true)
unfolding any_below
any_below-found p zero e = absurd (cc)
any_below-found p (suc n) e =
    ⊎_elim (λ a. let r = any_below-found p n a in (r.0, omega arith, r.2)) (λ b. (n, omega arith, b)) (or_cases (any_below p n) (p n) e)

pub any_below-at : (p : ℕ → Bool) (n k : ℕ) → k < n → p k ≡ true → any_below p n ≡ true
unfolding any_below
any_below-at p zero k h e = absurd (omega arith)
any_below-at p (suc n) k h e = ⊎_elim (λ s. grind (arith, nat_tests)) (λ d. let i : k < n = omega arith in rw (any_below-at p n k i e))
    (cases_eq k n)

pub all_below-at : (p : ℕ → Bool) (n k : ℕ) → all_below p n ≡ true → k < n → p k ≡ true
unfolding all_below
all_below-at p zero k e h = absurd (omega arith)
all_below-at p (suc n) k e h =
    ⊎_elim (λ s. grind (arith, nat_tests)) (λ d. let i : k < n = omega arith in let a : all_below p n ≡ true = grind (arith, nat_tests) in
    all_below-at p n k a i) (cases_eq k n)

pub all_below-each : (p : ℕ → Bool) (n : ℕ) → ((k : ℕ) → k < n → p k ≡ true) → all_below p n ≡ true
unfolding all_below
all_below-each p zero h = refl
all_below-each p (suc n) h = rw (all_below-each p n (λ k l. h k (omega arith)), h n (omega arith))

-- what the lowest one is
pub record IsLowest (p : ℕ → Bool) (n k : ℕ) : Type 0 where
  pub below : k < n
  pub passes : p k ≡ true
  pub first : (j : ℕ) → j < k → p j ≡ false

abbrev pub LowestIs : (ℕ → Bool) → ℕ → Option ℕ → Type 0
LowestIs p n (Some k) = IsLowest p n k
LowestIs p n None = (k : ℕ) → k < n → p k ≡ false

lowest-new : (p : ℕ → Bool) (n : ℕ) (b : Bool) → p n ≡ b → ((k : ℕ) → k < n → p k ≡ false) → LowestIs p (suc n) (cond b (Some n) None)
lowest-new p n true e h = record { below = omega arith; passes = e; first = h }
lowest-new p n false e h = λ k l. ⊎_elim (λ s. ap p s ∙ e) (λ d. h k (omega arith)) (cases_eq k n)

lowest-more : (p : ℕ → Bool) (n : ℕ) (o : Option ℕ) → LowestIs p n o → LowestIs p (suc n) (or_else o (cond (p n) (Some n) None))
lowest-more p n (Some k) h = record { below = omega arith; passes = h.passes; first = h.first }
lowest-more p n None h = lowest-new p n (p n) refl h

pub lowest-is : (p : ℕ → Bool) (n : ℕ) → LowestIs p n (lowest p n)
unfolding lowest
lowest-is p zero = λ k h. absurd (omega arith)
lowest-is p (suc n) = lowest-more p n (lowest p n) (lowest-is p n)

-- the list holds exactly the numbers below n that pass
pub those-holds : (p : ℕ → Bool) (n k : ℕ) → k < n → p k ≡ true → Contains (those p n) k
unfolding those
those-holds p zero k h e = absurd (omega arith)
those-holds p (suc n) k h e =
    ⊎_elim (λ s. let q : p n ≡ true = ap p (sym s) ∙ e in rw (q, s) (Contains-push (those p n) n))
    (λ d. Contains-append_left (those p n) (cond (p n) (n ∷ []) []) k (those-holds p n k (omega arith) e))
    (cases_eq k n)

those-only_in : (p : ℕ → Bool) (n k : ℕ) (b : Bool) → p n ≡ b → (Contains (those p n) k → (k < n) × (p k ≡ true))
    → Contains (those p n ++ cond b (n ∷ []) []) k → (k < suc n) × (p k ≡ true)
those-only_in p n k true e h c =
    ⊎_elim (λ i. let r = h i in (omega arith, r.1)) (λ s. (omega arith, ap p (sym s) ∙ e)) (Contains-push_cases (those p n) n k c)
those-only_in p n k false e h c = let r = h (rw append-nil at c) in (omega arith, r.1)

pub those-only : (p : ℕ → Bool) (n k : ℕ) → Contains (those p n) k → (k < n) × (p k ≡ true)
unfolding those
those-only p zero k c = absurd (omega (arith, c.1))
those-only p (suc n) k c = those-only_in p n k (p n) refl (those-only p n k) c

those-rise_in : (p : ℕ → Bool) (n : ℕ) (b : Bool) → AllPairs (λ x y. x < y) (those p n)
    → AllPairs (λ x y. x < y) (those p n ++ cond b (n ∷ []) [])
those-rise_in p n true h =
    all_pairs_push (λ x y. x < y) (those p n) n h (λ k d l. (those-only p n (get_or (those p n) k d) (Contains-get_or (those p n) k d l)).0)
those-rise_in p n false h = rw append-nil h

pub those-rise : (p : ℕ → Bool) (n : ℕ) → AllPairs (λ x y. x < y) (those p n)
unfolding those
those-rise p zero = λ i j d h l. absurd (omega arith)
those-rise p (suc n) = those-rise_in p n (p n) (those-rise p n)

lowest-match : (p : ℕ → Bool) (n : ℕ) (o : Option ℕ) → LowestIs p n o
    → MatchOption o ((k : ℕ) → k < n → p k ≡ false) (λ k. (k < n) × (p k ≡ true) × ((j : ℕ) → j < k → p j ≡ false))
lowest-match p n None h = h
lowest-match p n (Some k) h = (h.below, h.passes, h.first)

pub lowest-cases : (p : ℕ → Bool) (n : ℕ)
    → MatchOption (lowest p n) ((k : ℕ) → k < n → p k ≡ false) (λ k. (k < n) × (p k ≡ true) × ((j : ℕ) → j < k → p j ≡ false))
lowest-cases p n = lowest-match p n (lowest p n) (lowest-is p n)
