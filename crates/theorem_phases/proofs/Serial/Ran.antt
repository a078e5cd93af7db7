-- A serial execution as the transactions of its commits, one after another.
use Rattle.std.specs.Prelude.{ℕ, ◌≡◌, Bool, true, false, List, [], ◌∷◌, map, Option, Some, None, nat_lt, if◌then◌else◌}
use Rattle.std.proofs.Common.{refl, ap, ◌∙◌}
use Rattle.tcc_base.specs.declared.access.Commit.{Commit}
use Rattle.rules_program.specs.Orders.{order_of_commit}
use Rattle.rules_program.specs.Plain.{Attempt, Plain, commit_of, and_commit, after_order, serial, transaction}
use Rattle.rules_program.specs.Program.{Program}

-- from the machine m each commit is a whole transaction with its loads, stores and console bytes, up to the machine e
unfoldable pub Ran : (base : ℕ) → Program → (m : Plain) → List Commit → (e : Plain) → Type 0
Ran base p m [] e = m ≡ e
Ran base p m (c ∷ cs) e =
    (d : Plain × Attempt) × (transaction base p m c.core.0 c.n ≡ Some d) × (commit_of (order_of_commit c) d.1 ≡ c)
    × Ran base p d.0 cs e

-- what an execution gives

abbrev machine_of : Plain → Option (Plain × List Commit) → Plain
machine_of m None = m
machine_of m (Some r) = r.0

abbrev commits_of : Option (Plain × List Commit) → List Commit
commits_of None = []
commits_of (Some r) = r.1

abbrev first_of : Commit → List Commit → Commit
first_of c [] = c
first_of c (x ∷ xs) = x

abbrev rest_of : List Commit → List Commit
rest_of [] = []
rest_of (x ∷ xs) = xs

pub ran : (base : ℕ) (p : Program) (last : ℕ) (cs : List Commit) (m e : Plain)
    → serial base p last (map order_of_commit cs) m ≡ Some (e, cs) → Ran base p m cs e
unfolding serial Ran
ran base p last [] m e q = ap (machine_of m) q
ran base p last (c ∷ cs) m e q =
    go (nat_lt last c.tid.0) (transaction base p m c.core.0 c.n) refl q (λ k. ran base p c.tid.0 cs k e)
  where
    more : (d : Plain × Attempt) → transaction base p m c.core.0 c.n ≡ Some d → (y : Option (Plain × List Commit))
        → serial base p c.tid.0 (map order_of_commit cs) d.0 ≡ y
        → and_commit (commit_of (order_of_commit c) d.1) y ≡ Some (e, c ∷ cs)
        → ((k : Plain) → serial base p c.tid.0 (map order_of_commit cs) k ≡ Some (e, cs) → Ran base p k cs e)
        → Ran base p m (c ∷ cs) e
    more d h None s q f = absurd (cc)
    more d h (Some r) s q f =
        let same : commit_of (order_of_commit c) d.1 ≡ c = ap (λ o. first_of c (commits_of o)) q in
        let end : r.0 ≡ e = ap (machine_of e) q in
        let rest : r.1 ≡ cs = ap (λ o. rest_of (commits_of o)) q in
        (d, h, same, f d.0 (s ∙ (λ i. Some (end i, rest i))))

    go : (b : Bool) (t : Option (Plain × Attempt)) → transaction base p m c.core.0 c.n ≡ t
        → (if b then after_order (serial base p c.tid.0 (map order_of_commit cs)) (order_of_commit c) t else None) ≡ Some (e, c ∷ cs)
        → ((k : Plain) → serial base p c.tid.0 (map order_of_commit cs) k ≡ Some (e, cs) → Ran base p k cs e)
        → Ran base p m (c ∷ cs) e
    go false t h q f = absurd (cc)
    go true None h q f = absurd (cc)
    go true (Some d) h q f = more d h (serial base p c.tid.0 (map order_of_commit cs) d.0) refl q f
