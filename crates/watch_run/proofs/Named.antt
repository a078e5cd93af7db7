-- The commit of a TID among commits to which one is added.
use Rattle.std.proofs.Common.{◌≡◌, ℕ, ◌+◌, ◌==◌, Bool, true, false, List, [], ◌∷◌, Option, Some, None, if◌then◌else◌}
use Rattle.std.proofs.Common.{refl, arith}
use Rattle.std.specs.Prelude.{nat_lt}
use Rattle.std.proofs.lemmas.Bool.Decides.{nat_tests}
use Rattle.tcc_base.specs.declared.access.Commit.{Commit}
use Rattle.rules_maps.specs.Words.{or_else, num}
use Rattle.rules_tcc.specs.Step.{insert_commit}
use Rattle.theorem_serial.specs.Owners.{times}
use Rattle.watch.specs.Messages.{commit_of}

-- a commit of another TID changes nothing
pub of-other : (t : ℕ) (c : Commit) (cs : List Commit) → (c.tid.0 == t) ≡ false → commit_of t (insert_commit c cs) ≡ commit_of t cs
unfolding commit_of insert_commit
of-other t c [] h = rw h refl
of-other t c (d ∷ ds) h = go (nat_lt c.tid.0 d.tid.0) (of-other t c ds h)
  where
    back : (o : Option Commit) → or_else o None ≡ o
    back None = refl
    back (Some x) = refl

    go : (b : Bool) → commit_of t (insert_commit c ds) ≡ commit_of t ds
        → commit_of t (if b then c ∷ d ∷ ds else d ∷ insert_commit c ds) ≡ commit_of t (d ∷ ds)
    go true e = rw h (back (commit_of t (d ∷ ds)))
    go false e = rw e refl

-- the first commit of its TID is found
pub of-own : (c : Commit) (cs : List Commit) → commit_of c.tid.0 cs ≡ None → commit_of c.tid.0 (insert_commit c cs) ≡ Some c
unfolding commit_of insert_commit
of-own c [] h = let same : (c.tid.0 == c.tid.0) ≡ true = grind (arith, nat_tests) in rw same refl
of-own c (d ∷ ds) h = go (commit_of c.tid.0 ds) refl (d.tid.0 == c.tid.0) refl h (nat_lt c.tid.0 d.tid.0) (of-own c ds)
  where
    same : (c.tid.0 == c.tid.0) ≡ true
    same = grind (arith, nat_tests)

    go : (o : Option Commit) → commit_of c.tid.0 ds ≡ o → (q : Bool) → (d.tid.0 == c.tid.0) ≡ q
        → or_else o (if q then Some d else None) ≡ None → (b : Bool)
        → (commit_of c.tid.0 ds ≡ None → commit_of c.tid.0 (insert_commit c ds) ≡ Some c)
        → commit_of c.tid.0 (if b then c ∷ d ∷ ds else d ∷ insert_commit c ds) ≡ Some c
    go (Some x) e q f n b own = absurd (cc)
    go None e true f n b own = absurd (cc)
    go None e false f n true own = rw (e, f, same) refl
    go None e false f n false own = rw (own e) refl

-- a TID that no commit has
pub of-none : (t : ℕ) (cs : List Commit) → times t cs ≡ 0 → commit_of t cs ≡ None
unfolding commit_of times
of-none t [] h = refl
of-none t (c ∷ cs) h = go (c.tid.0 == t) (of-none t cs) h
  where
    go : (b : Bool) → (times t cs ≡ 0 → commit_of t cs ≡ None) → num b + times t cs ≡ 0
        → or_else (commit_of t cs) (if b then Some c else None) ≡ None
    go true f e = absurd (omega (arith, e))
    go false f e = rw (f (omega (arith, e))) refl

pub times-insert : (t : ℕ) (c : Commit) (cs : List Commit) → times t (insert_commit c cs) ≡ num (c.tid.0 == t) + times t cs
unfolding times insert_commit
times-insert t c [] = refl
times-insert t c (d ∷ ds) = go (nat_lt c.tid.0 d.tid.0) (times-insert t c ds)
  where
    go : (b : Bool) → times t (insert_commit c ds) ≡ num (c.tid.0 == t) + times t ds
        → times t (if b then c ∷ d ∷ ds else d ∷ insert_commit c ds) ≡ num (c.tid.0 == t) + (num (d.tid.0 == t) + times t ds)
    go true e = refl
    go false e = omega (arith, e)
