-- Flags and the list of what they flag.
use Rattle.std.proofs.Common.{ℕ, suc, zero, ◌+◌, ◌<◌, ◌≤◌, ◌≡◌, Bool, true, false, inl, inr, List, [], ◌∷◌, ◌++◌, length, get_or, set}
use Rattle.std.proofs.Common.{replicate, refl, sym, ◌∙◌, subst, arith, Contains, length-set, length-append, get_or-set_other}
use Rattle.std.proofs.lemmas.Bool.{false≢true, cases_eq, cases_lt}
use Rattle.std.proofs.lemmas.List.{get_or_push, get_or_append_left}
use Rattle.std.proofs.lemmas.List.Elements.{Contains-append_left, Contains-push}
use Rattle.spec_cache.specs.Places.{IsNoted, trues}

pub none_true : (n i : ℕ) → get_or (replicate n false) i false ≡ false
none_true zero i = refl
none_true (suc n) zero = refl
none_true (suc n) (suc i) = none_true n i

trues-none : (n : ℕ) → trues (replicate n false) ≡ 0
unfolding trues
trues-none zero = refl
trues-none (suc n) = trues-none n

pub trues-le : (bs : List Bool) → trues bs ≤ length bs
unfolding trues
trues-le [] = omega arith
trues-le (true ∷ bs) = let r = trues-le bs in omega arith
trues-le (false ∷ bs) = let r = trues-le bs in omega arith

pub trues-lt : (bs : List Bool) (i : ℕ) → i < length bs → get_or bs i false ≡ false → trues bs < length bs
unfolding trues
trues-lt [] i h e = absurd (omega arith)
trues-lt (true ∷ bs) zero h e = absurd (false≢true (sym e))
trues-lt (false ∷ bs) zero h e = let r = trues-le bs in omega arith
trues-lt (true ∷ bs) (suc i) h e = let r = trues-lt bs i (omega arith) e in omega arith
trues-lt (false ∷ bs) (suc i) h e = let r = trues-lt bs i (omega arith) e in omega arith

pub trues-set : (bs : List Bool) (i : ℕ) → i < length bs → get_or bs i false ≡ false → trues (set bs i true) ≡ trues bs + 1
unfolding trues
trues-set [] i h e = absurd (omega arith)
trues-set (true ∷ bs) zero h e = absurd (false≢true (sym e))
trues-set (false ∷ bs) zero h e = refl
trues-set (true ∷ bs) (suc i) h e = rw (trues-set bs i (omega arith) e) refl
trues-set (false ∷ bs) (suc i) h e = trues-set bs i (omega arith) e

no_trues : (fs : List Bool) → ((i : ℕ) → get_or fs i false ≡ false) → trues fs ≡ 0
unfolding trues
no_trues [] none = refl
no_trues (true ∷ fs) none = absurd (false≢true (sym (none 0)))
no_trues (false ∷ fs) none = no_trues fs (λ i. none (suc i))

-- none noted
pub IsNoted-none : (n : ℕ) (fs : List Bool) → ((i : ℕ) → get_or fs i false ≡ false) → length fs ≡ n → IsNoted n fs []
IsNoted-none n fs none l = record {
  flagged = l;
  found = λ i e. absurd (false≢true (sym (none i) ∙ e));
  inside = λ j h. absurd (omega arith);
  count = sym (no_trues fs none);
}

-- one more noted
pub IsNoted-more : (n : ℕ) (fs : List Bool) (ps : List ℕ) → IsNoted n fs ps → (at : ℕ) → at < n → get_or fs at false ≡ false
    → IsNoted n (set fs at true) (ps ++ at ∷ [])
IsNoted-more n fs ps k at h e =
    let b : at < length fs = rw k.flagged h in record {
      flagged = length-set fs at true ∙ k.flagged;
      found = λ i t. elim (cases_eq i at) [
        | inl q ↦ subst (λ (x : ℕ). Contains (ps ++ at ∷ []) x) (sym q) (Contains-push ps at)
        | inr m ↦ Contains-append_left ps (at ∷ []) i (k.found i (sym (get_or-set_other fs at i true false m) ∙ t))
      ];
      inside = λ j l. elim (cases_lt j (length ps)) [
        | inl q ↦ rw (get_or_append_left ps (at ∷ []) 0 j q) (k.inside j q)
        | inr q ↦ (let r = length-append ps (at ∷ []) in let z : length ps ≡ j = omega (arith, r, l, q) in rw (get_or_push ps at 0 j z) h)
      ];
      count = rw (length-append, trues-set fs at b e, k.count) refl;
    }

pub IsNoted-empty : (n : ℕ) (fs : List Bool) → fs ≡ replicate n false → IsNoted (length fs) fs []
IsNoted-empty n fs e = IsNoted-none (length fs) fs (λ i. rw e (none_true n i)) refl
