-- Commits by rising TID, for the proofs of callers too.
use Rattle.std.proofs.Common.{◌≡◌, ◌≢◌, ℕ, ◌<◌, ◌≤◌, Bool, true, false, nat_lt, List, [], ◌∷◌, ◌++◌, if◌then◌else◌, refl, arith}
use borrow.Author.Tests.{ltb-true, ltb-false}
use Rattle.tcc_base.specs.declared.access.Commit.{Commit}
use Rattle.rules_tcc.specs.Step.{insert_commit}
use Rattle.machine_commits.specs.Rising.{RisesFrom, Rising, HasNone}
pub use Rattle.machine_commits.proofs.Forgetting.{AllBelow-more, Rising-behind}

-- from above a TID, and so from the first
pub Rising-above : (last : ℕ) (cs : List Commit) → RisesFrom last cs → Rising cs
unfolding RisesFrom Rising
Rising-above last [] h = tt
Rising-above last (c ∷ cs) h = h.1

-- a first part
RisesFrom-front : (last : ℕ) (xs ys : List Commit) → RisesFrom last (xs ++ ys) → RisesFrom last xs
unfolding RisesFrom
RisesFrom-front last [] ys h = tt
RisesFrom-front last (x ∷ xs) ys h = (h.0, RisesFrom-front x.tid.0 xs ys h.1)

pub Rising-front : (xs ys : List Commit) → Rising (xs ++ ys) → Rising xs
unfolding Rising
Rising-front [] ys h = tt
Rising-front (x ∷ xs) ys h = RisesFrom-front x.tid.0 xs ys h

-- all lie above where they begin, the last too
pub RisesFrom-last : (last : ℕ) (xs : List Commit) (d : Commit) → RisesFrom last (xs ++ d ∷ []) → last < d.tid.0
unfolding RisesFrom
RisesFrom-last last [] d h = h.0
RisesFrom-last last (x ∷ xs) d h = omega (arith, h.0, RisesFrom-last x.tid.0 xs d h.1)

-- a commit of another TID leaves them rising
RisesFrom-insert : (last : ℕ) (c : Commit) (cs : List Commit)
    → RisesFrom last cs → last < c.tid.0 → HasNone c.tid.0 cs → RisesFrom last (insert_commit c cs)
unfolding RisesFrom HasNone insert_commit
RisesFrom-insert last c [] h lt a = (lt, tt)
RisesFrom-insert last c (d ∷ ds) h lt a = by (λ less. RisesFrom-insert d.tid.0 c ds h.1 less a.1) (nat_lt c.tid.0 d.tid.0) refl
  where
    by : (d.tid.0 < c.tid.0 → RisesFrom d.tid.0 (insert_commit c ds))
        → (b : Bool) → nat_lt c.tid.0 d.tid.0 ≡ b → RisesFrom last (if b then c ∷ d ∷ ds else d ∷ insert_commit c ds)
    by rest true e = (lt, (ltb-true c.tid.0 d.tid.0 e, h.1))
    by rest false e =
        let le : d.tid.0 ≤ c.tid.0 = ltb-false c.tid.0 d.tid.0 e in
        let ne : d.tid.0 ≢ c.tid.0 = a.0 in
        (h.0, rest (omega arith))

pub Rising-insert : (c : Commit) (cs : List Commit) → Rising cs → HasNone c.tid.0 cs → Rising (insert_commit c cs)
unfolding Rising RisesFrom HasNone insert_commit
Rising-insert c [] h a = tt
Rising-insert c (d ∷ ds) h a = by (nat_lt c.tid.0 d.tid.0) refl
  where
    by : (b : Bool) → nat_lt c.tid.0 d.tid.0 ≡ b → Rising (if b then c ∷ d ∷ ds else d ∷ insert_commit c ds)
    by true e = (ltb-true c.tid.0 d.tid.0 e, h)
    by false e =
        let le : d.tid.0 ≤ c.tid.0 = ltb-false c.tid.0 d.tid.0 e in
        let ne : d.tid.0 ≢ c.tid.0 = a.0 in
        RisesFrom-insert d.tid.0 c ds h (omega arith) a.1
