-- Setting a flag in a list that may be too short for it, and serving from a list of flags.
use Rattle.std.proofs.Common.{◌≡◌, ℕ, zero, suc, ◌+◌, ◌-◌, ◌<◌, ◌≤◌, Bool, true, false, List, [], ◌∷◌, ◌++◌, max, nat_lt, length}
use Rattle.std.proofs.Common.{length-append, append-nil, replicate, set, refl, ap, ◌∙◌, arith}
use Rattle.std.proofs.lemmas.List.{length-replicate}
use Rattle.std.proofs.lemmas.Bool.Decides.{nat_tests}
use borrow.Author.Tests.{ltb-true, ltb-false}
use Rattle.rules_maps.specs.Serving.{Serving, serve_from, skip_at, advance, skipped, kept}

-- a flag that the list has
pub set-skip_at : (k : ℕ) (xs : List Bool) → k < length xs → set xs k true ≡ skip_at k xs
unfolding skip_at
set-skip_at zero [] h = absurd (omega arith)
set-skip_at zero (x ∷ xs) h = refl
set-skip_at (suc k) [] h = absurd (omega arith)
set-skip_at (suc k) (x ∷ xs) h = ap (λ ys. x ∷ ys) (set-skip_at k xs (omega arith))

-- a flag behind the end of an empty list
pub set-replicate : (k n : ℕ) → n ≡ suc k → set (replicate n false) k true ≡ skip_at k []
unfolding skip_at
set-replicate zero n e = rw e refl
set-replicate (suc k) n e = rw e (ap (λ ys. false ∷ ys) (set-replicate k (suc k) refl))

-- a flag behind the end: the list is made longer by clear flags first
pub set-grown : (k n : ℕ) (xs : List Bool) → length xs ≤ k → n + length xs ≡ suc k → set (xs ++ replicate n false) k true ≡ skip_at k xs
unfolding skip_at
set-grown k n [] h e = set-replicate k n (omega arith)
set-grown zero n (x ∷ xs) h e = absurd (omega arith)
set-grown (suc k) n (x ∷ xs) h e = ap (λ ys. x ∷ ys) (set-grown k n xs (omega arith) (omega arith))

-- serving begins at t where no flag is left, or the first is clear
pub serve_from-none : (t : ℕ) → serve_from t [] ≡ record { serving = t; skips = [] }
unfolding serve_from
serve_from-none t = refl

pub serve_from-clear : (t : ℕ) (xs : List Bool) → serve_from t (false ∷ xs) ≡ record { serving = t; skips = xs }
unfolding serve_from
serve_from-clear t xs = refl

pub serve_from-set : (t : ℕ) (xs : List Bool) → serve_from t (true ∷ xs) ≡ serve_from (t + 1) xs
unfolding serve_from
serve_from-set t xs = refl

pub advance-serve_from : (s : Serving) → advance s ≡ serve_from (s.serving + 1) s.skips
unfolding advance
advance-serve_from s = refl

-- no TID behind the flags is passed
serve_from-bound : (t : ℕ) (xs : List Bool) → (serve_from t xs).serving ≤ t + length xs
unfolding serve_from
serve_from-bound t [] = omega arith
serve_from-bound t (true ∷ xs) = omega (arith, serve_from-bound (t + 1) xs)
serve_from-bound t (false ∷ xs) = omega arith

pub advance-bound : (s : Serving) → (advance s).serving ≤ s.serving + 1 + length s.skips
unfolding advance
advance-bound s = serve_from-bound (s.serving + 1) s.skips

pub ruleset serving_steps = (serve_from-none, serve_from-clear, serve_from-set, advance-serve_from)

-- both at once
pub set-reached : (k : ℕ) (xs : List Bool) → set (xs ++ replicate (k + 1 - length xs) false) k true ≡ skip_at k xs
set-reached k xs = by (nat_lt k (length xs)) refl
  where
    none_missing : (n : ℕ) → k < length xs → n ≡ 0 → set (xs ++ replicate n false) k true ≡ skip_at k xs
    none_missing n h z = rw (z, append-nil) (set-skip_at k xs h)

    by : (b : Bool) → nat_lt k (length xs) ≡ b → set (xs ++ replicate (k + 1 - length xs) false) k true ≡ skip_at k xs
    by true e = none_missing (k + 1 - length xs) (ltb-true k (length xs) e) (omega (arith, ltb-true k (length xs) e))
    by false e = set-grown k (k + 1 - length xs) xs (ltb-false k (length xs) e) (omega (arith, ltb-false k (length xs) e))

pub ruleset reached_flags = (set-reached, length-append, length-replicate)

-- the list ends with the last flag that was ever set in it
pub length-skip_at : (k : ℕ) (xs : List Bool) → length (skip_at k xs) ≡ max (length xs) (k + 1)
unfolding skip_at
length-skip_at zero [] = refl
length-skip_at zero (x ∷ xs) = omega arith
length-skip_at (suc k) [] = omega (arith, length-skip_at k [])
length-skip_at (suc k) (x ∷ xs) = omega (arith, length-skip_at k xs)

-- what a skip does, by where its TID lies
pub skipped-lower : (t : ℕ) (s : Serving) → t < s.serving → skipped t s ≡ s
unfolding skipped
skipped-lower t s h = grind (arith, nat_tests)

pub skipped-served : (t : ℕ) (s : Serving) → t ≡ s.serving → skipped t s ≡ advance s
unfolding skipped
skipped-served t s h = grind (arith, nat_tests)

pub skipped-higher : (t : ℕ) (s : Serving) → s.serving < t
    → skipped t s ≡ record { serving = s.serving; skips = skip_at (t - s.serving - 1) s.skips }
unfolding skipped kept
skipped-higher t s h = grind (arith, nat_tests)

pub ruleset skip_cases = (length-skip_at, skipped-lower, skipped-served, skipped-higher)
