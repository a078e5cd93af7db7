-- How many commits of a core there are, and of how many instructions, once one more is noted.
use Rattle.std.proofs.Common.{◌≡◌, ◌==◌, ◌+◌, ℕ, Bool, true, false, not, List, [], ◌∷◌, Option, Some, None, nat_lt, if◌then◌else◌, sum_by}
use Rattle.std.proofs.Common.{cond, filter, refl, ap, arith}
use Rattle.std.proofs.lemmas.Bool.Decides.{nat_tests}
use Rattle.std.proofs.lemmas.List.Sums.{sum_by-cons}
use Rattle.tcc_base.specs.declared.access.Commit.{Commit as Noted}
use Rattle.rules_tcc.specs.Step.{insert_commit, and_noted}
use Rattle.count_law.specs.Sums.{is_of, commits_of, instructions_of}

-- a commit counts as one
abbrev pub one : Option Noted → ℕ
one None = 0
one (Some m) = 1

-- how many instructions were committed
abbrev pub gone : Option Noted → ℕ
gone None = 0
gone (Some m) = m.n

-- a commit is of this core
abbrev pub is_mine : (core : ℕ) → Option Noted → Bool
is_mine c None = true
is_mine c (Some m) = m.core.0 == c

-- what one commit adds to a sum over those of core j
abbrev counted_if : Bool → (v : ℕ) → ℕ
counted_if b v = if b then v else 0

commits-cons : (j : ℕ) (m : Noted) (cs : List Noted) → commits_of j (m ∷ cs) ≡ counted_if (is_of j m) 1 + commits_of j cs
commits-cons j m cs = sum_by-cons (λ x. cond (is_of j x) 1 0) m cs

instructions-cons : (j : ℕ) (m : Noted) (cs : List Noted)
    → instructions_of j (m ∷ cs) ≡ counted_if (is_of j m) m.n + instructions_of j cs
instructions-cons j m cs = go (is_of j m)
  where
    go : (b : Bool) → sum_by (λ x. x.n) (cond b (m ∷ filter (is_of j) cs) (filter (is_of j) cs)) ≡ counted_if b m.n + instructions_of j cs
    go true = sum_by-cons (λ x. x.n) m (filter (is_of j) cs)
    go false = omega arith

commits-inserted : (j : ℕ) (m : Noted) (cs : List Noted) → commits_of j (insert_commit m cs) ≡ counted_if (is_of j m) 1 + commits_of j cs
unfolding insert_commit
commits-inserted j m [] = commits-cons j m []
commits-inserted j m (d ∷ ds) = go (nat_lt m.tid.0 d.tid.0) (commits-inserted j m ds)
  where
    go : (b : Bool) → commits_of j (insert_commit m ds) ≡ counted_if (is_of j m) 1 + commits_of j ds
        → commits_of j (if b then m ∷ d ∷ ds else d ∷ insert_commit m ds) ≡ counted_if (is_of j m) 1 + commits_of j (d ∷ ds)
    go true rest = commits-cons j m (d ∷ ds)
    go false rest = omega (arith, commits-cons j d (insert_commit m ds), commits-cons j d ds, rest)

instructions-inserted : (j : ℕ) (m : Noted) (cs : List Noted)
    → instructions_of j (insert_commit m cs) ≡ counted_if (is_of j m) m.n + instructions_of j cs
unfolding insert_commit
instructions-inserted j m [] = instructions-cons j m []
instructions-inserted j m (d ∷ ds) = go (nat_lt m.tid.0 d.tid.0) (instructions-inserted j m ds)
  where
    go : (b : Bool) → instructions_of j (insert_commit m ds) ≡ counted_if (is_of j m) m.n + instructions_of j ds
        → instructions_of j (if b then m ∷ d ∷ ds else d ∷ insert_commit m ds) ≡ counted_if (is_of j m) m.n + instructions_of j (d ∷ ds)
    go true rest = instructions-cons j m (d ∷ ds)
    go false rest = omega (arith, instructions-cons j d (insert_commit m ds), instructions-cons j d ds, rest)

-- a commit of core c counts there
pub commits-mine : (c : ℕ) (m : Option Noted) (cs : List Noted) → is_mine c m ≡ true
    → commits_of c (and_noted m cs) ≡ commits_of c cs + one m
commits-mine c None cs e = omega arith
commits-mine c (Some m) cs e = omega (arith, commits-inserted c m cs, ap (λ b. counted_if b 1) e)

pub instructions-mine : (c : ℕ) (m : Option Noted) (cs : List Noted) → is_mine c m ≡ true
    → instructions_of c (and_noted m cs) ≡ instructions_of c cs + gone m
instructions-mine c None cs e = omega arith
instructions-mine c (Some m) cs e = omega (arith, instructions-inserted c m cs, ap (λ b. counted_if b m.n) e)

-- and not at another core
not-mine : (c j : ℕ) (m : Noted) → (m.core.0 == c) ≡ true → not (c == j) ≡ true → is_of j m ≡ false
not-mine c j m e o = grind (arith, nat_tests, e, o)

pub commits-other : (c j : ℕ) (m : Option Noted) (cs : List Noted) → is_mine c m ≡ true → not (c == j) ≡ true
    → commits_of j (and_noted m cs) ≡ commits_of j cs
commits-other c j None cs e o = refl
commits-other c j (Some m) cs e o = omega (arith, commits-inserted j m cs, ap (λ b. counted_if b 1) (not-mine c j m e o))

pub instructions-other : (c j : ℕ) (m : Option Noted) (cs : List Noted) → is_mine c m ≡ true → not (c == j) ≡ true
    → instructions_of j (and_noted m cs) ≡ instructions_of j cs
instructions-other c j None cs e o = refl
instructions-other c j (Some m) cs e o = omega (arith, instructions-inserted j m cs, ap (λ b. counted_if b m.n) (not-mine c j m e o))
