-- A commit's place among those of smaller TIDs.
use Rattle.std.proofs.Common.{◌≡◌, ℕ, zero, suc, ◌+◌, ◌<◌, ◌≤◌, Bool, true, false, cond, List, [], ◌∷◌, length, Some, refl, ap, ◌∙◌}
use Rattle.std.proofs.Common.{subst, arith}
use Rattle.std.specs.Prelude.{filter, nat_lt, slice_get}
use Rattle.std.proofs.lemmas.Bool.Decides.{nat_tests}
use Rattle.tcc_base.specs.declared.access.Commit.{Commit}
use Rattle.rules_program.specs.Cores.{AreBy}
use Rattle.rules_program.specs.Orders.{order_of_commit}
use Rattle.std.specs.Prelude.{map}
use Rattle.base_lemmas.proofs.Lemmas.{lt_self}
use Rattle.rules_tcc.specs.Step.{insert_commit}
use Rattle.theorem_serial.specs.Owners.{IsRising}
use Rattle.theorem_phases.specs.Laws.{place_of}

-- none behind a TID is smaller
pub none-smaller : (b t : ℕ) (cs : List Commit) → IsRising b cs → t ≤ b + 1 → place_of t cs ≡ 0
unfolding IsRising
none-smaller b t [] r l = refl
none-smaller b t (c ∷ cs) r l = go (nat_lt c.tid.0 t) refl (none-smaller c.tid.0 t cs r.1 (let q = r.0 in omega (arith, q, l)))
  where
    go : (x : Bool) → nat_lt c.tid.0 t ≡ x → place_of t cs ≡ 0
        → length (cond x (c ∷ filter (λ d. nat_lt d.tid.0 t) cs) (filter (λ d. nat_lt d.tid.0 t) cs)) ≡ 0
    go false q e = e
    go true q e = let s = r.0 in absurd (grind (arith, nat_tests))

-- a commit isn't before itself
pub place-insert : (x : Commit) (cs : List Commit) → place_of x.tid.0 (insert_commit x cs) ≡ place_of x.tid.0 cs
unfolding insert_commit
place-insert x [] = rw (lt_self x.tid.0) refl
place-insert x (d ∷ ds) = go (nat_lt x.tid.0 d.tid.0) (place-insert x ds)
  where
    rest : (t : Bool) → place_of x.tid.0 (insert_commit x ds) ≡ place_of x.tid.0 ds
        → length (cond t (d ∷ filter (λ c. nat_lt c.tid.0 x.tid.0) (insert_commit x ds)) (filter (λ c. nat_lt c.tid.0 x.tid.0)
        (insert_commit x ds)))
        ≡ length (cond t (d ∷ filter (λ c. nat_lt c.tid.0 x.tid.0) ds) (filter (λ c. nat_lt c.tid.0 x.tid.0) ds))
    rest true e = ap suc e
    rest false e = e

    go : (a : Bool) → place_of x.tid.0 (insert_commit x ds) ≡ place_of x.tid.0 ds
        → place_of x.tid.0 (cond a (x ∷ d ∷ ds) (d ∷ insert_commit x ds)) ≡ place_of x.tid.0 (d ∷ ds)
    go true e = rw (lt_self x.tid.0) refl
    go false e = rest (nat_lt d.tid.0 x.tid.0) e

above : (b : ℕ) (x : Commit) (cs : List Commit) → IsRising b (insert_commit x cs) → b < x.tid.0
unfolding IsRising insert_commit
above b x [] r = r.0
above b x (d ∷ ds) r = go (nat_lt x.tid.0 d.tid.0) r (λ r. above d.tid.0 x ds r)
  where
    go : (a : Bool) → IsRising b (cond a (x ∷ d ∷ ds) (d ∷ insert_commit x ds)) → (IsRising d.tid.0 (insert_commit x ds)
        → d.tid.0 < x.tid.0)
        → b < x.tid.0
    go true r f = r.0
    go false r f = let p = r.0 in let q = f r.1 in omega (arith, p, q)

-- it stands in its place
pub at-place : (b : ℕ) (x : Commit) (cs : List Commit) → IsRising b (insert_commit x cs)
    → slice_get (insert_commit x cs) (place_of x.tid.0 cs) ≡ Some x
unfolding IsRising insert_commit
at-place b x [] r = refl
at-place b x (d ∷ ds) r = go (nat_lt x.tid.0 d.tid.0) refl r (λ r. at-place d.tid.0 x ds r)
  where
    go : (a : Bool) → nat_lt x.tid.0 d.tid.0 ≡ a → IsRising b (cond a (x ∷ d ∷ ds) (d ∷ insert_commit x ds))
        → (IsRising d.tid.0 (insert_commit x ds) → slice_get (insert_commit x ds) (place_of x.tid.0 ds) ≡ Some x)
        → slice_get (cond a (x ∷ d ∷ ds) (d ∷ insert_commit x ds)) (place_of x.tid.0 (d ∷ ds)) ≡ Some x
    go true q r f = ap (slice_get (x ∷ d ∷ ds)) (none-smaller x.tid.0 x.tid.0 (d ∷ ds) r.1 (omega arith))
    go false q r f =
        let below = above d.tid.0 x ds r.1 in
        let t : nat_lt d.tid.0 x.tid.0 ≡ true = grind (arith, nat_tests) in
        ap (λ y. slice_get (d ∷ insert_commit x ds) (length (cond y (d ∷ filter (λ c. nat_lt c.tid.0 x.tid.0) ds) (filter (λ c. nat_lt
        c.tid.0 x.tid.0) ds)))) t
        ∙ f r.1

pub place-most : (t : ℕ) (cs : List Commit) → place_of t cs ≤ length cs
place-most t [] = omega arith
place-most t (c ∷ cs) = go (nat_lt c.tid.0 t) (place-most t cs)
  where
    go : (b : Bool) → place_of t cs ≤ length cs
        → length (cond b (c ∷ filter (λ d. nat_lt d.tid.0 t) cs) (filter (λ d. nat_lt d.tid.0 t) cs)) ≤ suc (length cs)
    go true e = omega (arith, e)
    go false e = omega (arith, e)

-- the commit at a place is by one of these cores
pub by-core : (p : ℕ → Bool) (cs : List Commit) (n : ℕ) (x : Commit) → AreBy p (map order_of_commit cs) → slice_get cs n ≡ Some x
    → p x.core.0 ≡ true
unfolding AreBy
by-core p [] n x a e = absurd (cc)
by-core p (c ∷ cs) zero x a e = let s : c ≡ x = cc in subst (λ y. p y.core.0 ≡ true) s a.0
by-core p (c ∷ cs) (suc n) x a e = by-core p cs n x a.1 e

-- ---- looked for from the end

from-above : (b : ℕ) (cs : List Commit) (n : ℕ) (d : Commit) → IsRising b cs → slice_get cs n ≡ Some d → b < d.tid.0
unfolding IsRising
from-above b [] n d r e = absurd (cc)
from-above b (x ∷ xs) zero d r e = let s : x ≡ d = cc in subst (λ y. b < y.tid.0) s r.0
from-above b (x ∷ xs) (suc n) d r e = let p = r.0 in let q = from-above x.tid.0 xs n d r.1 e in omega (arith, p, q)

-- where a commit is smaller all before it are
pub first-smaller : (b t : ℕ) (cs : List Commit) (n : ℕ) (d : Commit) → IsRising b cs → slice_get cs n ≡ Some d → d.tid.0 < t
    → suc n ≤ place_of t cs
unfolding IsRising
first-smaller b t [] n d r e l = absurd (cc)
first-smaller b t (c ∷ cs) zero d r e l =
    let s : c ≡ d = cc in
    let q : nat_lt c.tid.0 t ≡ true = rw s (grind (arith, nat_tests)) in
    rw q (omega arith)
first-smaller b t (c ∷ cs) (suc n) d r e l = go (nat_lt c.tid.0 t) refl (first-smaller c.tid.0 t cs n d r.1 e l)
  where
    go : (x : Bool) → nat_lt c.tid.0 t ≡ x → suc n ≤ place_of t cs
        → suc (suc n) ≤ length (cond x (c ∷ filter (λ d. nat_lt d.tid.0 t) cs) (filter (λ d. nat_lt d.tid.0 t) cs))
    go true q f = omega (arith, f)
    go false q f = let z = from-above c.tid.0 cs n d r.1 e in absurd (grind (arith, nat_tests))

-- where a commit isn't smaller those from it on aren't
pub last-smaller : (b t : ℕ) (cs : List Commit) (n : ℕ) (d : Commit) → IsRising b cs → slice_get cs n ≡ Some d → t ≤ d.tid.0
    → place_of t cs ≤ n
unfolding IsRising
last-smaller b t [] n d r e l = absurd (cc)
last-smaller b t (c ∷ cs) zero d r e l =
    let s : c ≡ d = cc in
    let q : nat_lt c.tid.0 t ≡ false = rw s (grind (arith, nat_tests)) in
    let m = none-smaller c.tid.0 t cs r.1 (rw s (omega (arith, l))) in
    rw q (omega (arith, m))
last-smaller b t (c ∷ cs) (suc n) d r e l = go (nat_lt c.tid.0 t) (last-smaller c.tid.0 t cs n d r.1 e l)
  where
    go : (x : Bool) → place_of t cs ≤ n
        → length (cond x (c ∷ filter (λ d. nat_lt d.tid.0 t) cs) (filter (λ d. nat_lt d.tid.0 t) cs)) ≤ suc n
    go true f = omega (arith, f)
    go false f = omega (arith, f)
