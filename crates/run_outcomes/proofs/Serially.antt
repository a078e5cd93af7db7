-- Where every state's next transactions lead to states of the list, every serial execution does.
use Rattle.std.proofs.Common.{ℕ, List, [], ◌∷◌, Bool, true, false, Option, Some, None, IfSome, Contains, nat_lt, if◌then◌else◌}
use Rattle.std.proofs.lemmas.List.Elements.{All-contains}
use Rattle.run_outcomes.specs.Serially.{IsFollowed, AreFollowed, HasEveryEnd}
use Rattle.tcc_base.specs.declared.access.Commit.{Commit}
use Rattle.rules_program.specs.Plain.{Plain, Attempt, Order, transaction, serial, after_order, and_commit, commit_of}
use Rattle.rules_program.specs.Program.{Program}

commit-ends : (ms : List Plain) (c : Commit) (x : Option (Plain × List Commit)) → IfSome x (λ r. Contains ms r.0)
    → IfSome (and_commit c x) (λ r. Contains ms r.0)
commit-ends ms c None h = tt
commit-ends ms c (Some r) h = h

order-ends : (base : ℕ) (p : Program) (ms : List Plain) (o : Order) (os : List Order) (x : Option (Plain × Attempt))
    → IfSome x (λ r. Contains ms r.0)
    → ((m : Plain) → Contains ms m → IfSome (serial base p o.tid os m) (λ r. Contains ms r.0))
    → IfSome (after_order (serial base p o.tid os) o x) (λ r. Contains ms r.0)
order-ends base p ms o os None h rest = tt
order-ends base p ms o os (Some d) h rest =
    commit-ends ms (commit_of o d.1) (serial base p o.tid os d.0) (rest d.0 h)

if-rises : (ms : List Plain) (b : Bool) (x : Option (Plain × List Commit)) → IfSome x (λ r. Contains ms r.0)
    → IfSome (if b then x else None) (λ r. Contains ms r.0)
if-rises ms true x h = h
if-rises ms false x h = tt

pub every-end : (base : ℕ) (p : Program) (ms : List Plain) → AreFollowed base p ms ms → (m : Plain) → Contains ms m
    → HasEveryEnd base p ms m
unfolding serial IsFollowed
every-end base p ms closed m has last [] = has
every-end base p ms closed m has last (o ∷ os) =
    if-rises ms (nat_lt last o.tid) (after_order (serial base p o.tid os) o (transaction base p m o.core o.n))
    (order-ends base p ms o os (transaction base p m o.core o.n)
    (All-contains (λ m'. (core : ℕ) → IsFollowed base p ms m' core) ms m closed has o.core o.n)
    (λ m' has'. every-end base p ms closed m' has' o.tid os))
