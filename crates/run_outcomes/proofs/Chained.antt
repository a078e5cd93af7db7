-- Chains of numbers with the same key: what a walk along one of them has seen.
use Rattle.std.proofs.Common.{ℕ, zero, suc, ◌≡◌, ◌+◌, ◌<◌, ◌≤◌, List, [], ◌∷◌, ◌++◌, Option, Some, None, refl, sym, ◌∙◌, ap, subst}
use Rattle.std.proofs.Common.{length, slice_index, nat_eq, cond, length-append, add-one, inl, inr, arith}
use Rattle.std.proofs.lemmas.Bool.{cases_lt}
use Rattle.std.proofs.lemmas.Bool.Decides.{eqb_tells}
use Rattle.std.proofs.lemmas.Grind.{common_steps}
use Rattle.std.specs.Option.{unwrap_or}
use Rattle.indexmap.specs.IndexMap.{get}
use Rattle.run_outcomes.specs.Chains.{AreChained, last_with}
use Rattle.run_outcomes.specs.declared.chains.Chains.{Chains}

-- the last number with a key is one, and none after it is
pub last-some : (keys : List ℕ) (key n i : ℕ) → last_with keys key n ≡ Some i
    → (i < n) × (slice_index keys i ≡ key) × ((j : ℕ) → i < j → j < n → slice_index keys j ≡ key → ⊥)
unfolding last_with
last-some keys key zero i h = cc
last-some keys key (suc n) i h =
    elim (eqb_tells (slice_index keys n) key) [
      | inl e ↦
          let q : Some n ≡ Some i = rw e.0 at h in
          let same : n ≡ i = cc in (
            omega (arith, same),
            rw (← same) e.1,
            λ j up below is. absurd (omega (arith, same, up, below)),
          )
      | inr e ↦
          let q : last_with keys key n ≡ Some i = rw e.0 at h in
          let r = last-some keys key n i q in (
            omega (arith, r.0),
            r.1,
            λ j up below is.
                elim (cases_lt j n) [
                  | inl lt ↦ r.2 j up lt is
                  | inr ge ↦ let last : j ≡ n = omega (arith, ge, below) in e.1 (rw (← last) is)
                ],
          )
    ]

pub last-none : (keys : List ℕ) (key n : ℕ) → last_with keys key n ≡ None → (j : ℕ) → j < n → slice_index keys j ≡ key → ⊥
unfolding last_with
last-none keys key zero h j lt is = omega arith
last-none keys key (suc n) h j lt is =
    elim (eqb_tells (slice_index keys n) key) [
      | inl e ↦ let q : Some n ≡ None = rw e.0 at h in cc
      | inr e ↦
          let q : last_with keys key n ≡ None = rw e.0 at h in
          elim (cases_lt j n) [
            | inl below ↦ last-none keys key n q j below is
            | inr ge ↦ let last : j ≡ n = omega (arith, ge, lt) in e.1 (rw (← last) is)
          ]
    ]

index-kept : (keys more : List ℕ) (k : ℕ) → k < length keys → slice_index (keys ++ more) k ≡ slice_index keys k
index-kept keys more k lt = grind (arith, common_steps)

index-last : (keys : List ℕ) (key k : ℕ) → k ≡ length keys → slice_index (keys ++ key ∷ []) k ≡ key
index-last keys key k e = grind (arith, common_steps)

-- further keys change nothing among the first ones
pub last-kept : (keys more : List ℕ) (key n : ℕ) → n ≤ length keys → last_with (keys ++ more) key n ≡ last_with keys key n
unfolding last_with
last-kept keys more key zero le = refl
last-kept keys more key (suc n) le =
    rw (index-kept keys more n (omega (arith, le)), last-kept keys more key n (omega (arith, le))) refl

last-added : (keys : List ℕ) (key q : ℕ)
    → last_with (keys ++ key ∷ []) q (length keys + 1) ≡ cond (nat_eq key q) (Some (length keys)) (last_with keys q (length keys))
unfolding last_with
last-added keys key q =
    let le : length keys ≤ length keys = omega arith in
    rw (add-one (length keys), index-last keys key (length keys) refl, last-kept keys (key ∷ []) q (length keys) le) refl

pub chained-nothing : (c : Chains) → length c.older ≡ 0 → ((key : ℕ) → get nat_eq c.newest key ≡ None) → AreChained [] c
unfolding last_with
chained-nothing c empty none = record {
  counted = empty;
  newest = none;
  older = λ k lt. absurd (omega (arith, lt));
}

-- one number more
pub chained-more : (keys : List ℕ) (key : ℕ) (old new : Chains) (older : ℕ) → AreChained keys old
    → new.older ≡ old.older ++ older ∷ [] → older ≡ unwrap_or (last_with keys key (length keys)) (length keys)
    → ((q : ℕ) → get nat_eq new.newest q ≡ cond (nat_eq key q) (Some (length keys)) (get nat_eq old.newest q))
    → AreChained (keys ++ key ∷ []) new
chained-more keys key old new older h is first newest =
    let len : length (keys ++ key ∷ []) ≡ length keys + 1 = length-append keys (key ∷ []) in
    record {
      counted = ap length is ∙ length-append old.older (older ∷ []) ∙ ap (λ n. n + 1) h.counted ∙ sym len;
      newest = λ q. newest q ∙ ap (λ o. cond (nat_eq key q) (Some (length keys)) o) (h.newest q) ∙ sym (last-added keys key q)
          ∙ ap (last_with (keys ++ key ∷ []) q) (sym len);
      older = λ k lt.
          elim (cases_lt k (length keys)) [
            | inl below ↦
                let there : k < length old.older = omega (arith, below, h.counted) in
                let le : k ≤ length keys = omega (arith, below) in
                ap (λ xs. slice_index xs k) is ∙ index-kept old.older (older ∷ []) k there ∙ h.older k below
                ∙ ap (λ x. unwrap_or (last_with keys x k) k) (sym (index-kept keys (key ∷ []) k below))
                ∙ ap (λ o. unwrap_or o k) (sym (last-kept keys (key ∷ []) (slice_index (keys ++ key ∷ []) k) k le))
            | inr ge ↦
                let at : k ≡ length keys = omega (arith, ge, lt, len) in
                let at' : k ≡ length old.older = omega (arith, at, h.counted) in
                let le : k ≤ length keys = omega (arith, at) in
                ap (λ xs. slice_index xs k) is ∙ index-last old.older older k at' ∙ first
                ∙ ap (λ n. unwrap_or (last_with keys key n) n) (sym at)
                ∙ ap (λ x. unwrap_or (last_with keys x k) k) (sym (index-last keys key k at))
                ∙ ap (λ o. unwrap_or o k) (sym (last-kept keys (key ∷ []) (slice_index (keys ++ key ∷ []) k) k le))
          ];
    }

-- a number that stands for itself has no older one
pub older-none : (keys : List ℕ) (c : Chains) (k : ℕ) → AreChained keys c → k < length keys → k ≤ slice_index c.older k
    → None ≡ last_with keys (slice_index keys k) k
older-none keys c k h lt le = go (last_with keys (slice_index keys k) k) refl
  where
    go : (o : Option ℕ) → last_with keys (slice_index keys k) k ≡ o → None ≡ o
    go None e = refl
    go (Some i) e =
        let below : i < k = (last-some keys (slice_index keys k) k i e).0 in
        let is : slice_index c.older k ≡ i = h.older k lt ∙ ap (λ o. unwrap_or o k) e in
        absurd (omega (arith, below, is, le))

-- a walk along the numbers of a key has come to `next`, and each number that it passed has the property
pub record IsWalked (keys : List ℕ) (key : ℕ) (P : ℕ → Type 0) (next : Option ℕ) : Type 0 where
  pub upto : ℕ
  pub is : next ≡ last_with keys key upto
  pub within : upto ≤ length keys
  pub passed : (j : ℕ) → upto ≤ j → j < length keys → slice_index keys j ≡ key → P j

pub walk-starts : (keys : List ℕ) (key : ℕ) (P : ℕ → Type 0) (next : Option ℕ) → next ≡ last_with keys key (length keys)
    → IsWalked keys key P next
walk-starts keys key P next is = record {
  upto = length keys;
  is = is;
  within = omega arith;
  passed = λ j ge lt e. absurd (omega (arith, ge, lt));
}

pub walk-at : (keys : List ℕ) (key : ℕ) (P : ℕ → Type 0) (number : ℕ) → IsWalked keys key P (Some number)
    → (number < length keys) × (slice_index keys number ≡ key)
walk-at keys key P number w =
    let r = last-some keys key w.upto number (sym w.is) in
    (omega (arith, r.0, w.within), r.1)

pub walk-on : (keys : List ℕ) (key : ℕ) (P : ℕ → Type 0) (number : ℕ) (next : Option ℕ) → IsWalked keys key P (Some number)
    → P number → next ≡ last_with keys (slice_index keys number) number → IsWalked keys key P next
walk-on keys key P number next w p is =
    let r = last-some keys key w.upto number (sym w.is) in
    record {
      upto = number;
      is = is ∙ ap (λ x. last_with keys x number) r.1;
      within = omega (arith, r.0, w.within);
      passed = λ j ge lt e.
          elim (cases_lt number j) [
            | inl up ↦ elim (cases_lt j w.upto) [
              | inl below ↦ absurd (r.2 j up below e)
              | inr beyond ↦ w.passed j beyond lt e
            ]
            | inr le ↦ let at : number ≡ j = omega (arith, le, ge) in subst P at p
          ];
    }

pub walk-ends : (keys : List ℕ) (key : ℕ) (P : ℕ → Type 0) → IsWalked keys key P None
    → (j : ℕ) → j < length keys → slice_index keys j ≡ key → P j
walk-ends keys key P w j lt e =
    elim (cases_lt j w.upto) [
      | inl below ↦ absurd (last-none keys key w.upto (sym w.is) j below e)
      | inr beyond ↦ w.passed j beyond lt e
    ]

-- the numbers that it passed have a weaker property too
pub walk-more : (keys : List ℕ) (key : ℕ) (P Q : ℕ → Type 0) (next : Option ℕ) → ((j : ℕ) → P j → Q j) → IsWalked keys key P next
    → IsWalked keys key Q next
walk-more keys key P Q next weaker w = record {
  upto = w.upto;
  is = w.is;
  within = w.within;
  passed = λ j ge lt e. weaker j (w.passed j ge lt e);
}

-- how far a walk is from its end at most
abbrev pub ahead : Option ℕ → ℕ
ahead None = 0
ahead (Some number) = number + 1
