-- A serial execution in two parts, and one more transaction at its end.
use Rattle.std.specs.Prelude.{ℕ, ◌≡◌, Bool, true, false, List, [], ◌∷◌, ◌++◌, Option, Some, None, nat_lt, if◌then◌else◌}
use Rattle.std.proofs.Common.{refl, ◌∙◌}
use Rattle.tcc_base.specs.declared.access.Commit.{Commit}
use Rattle.rules_program.specs.Orders.{last_tid, with_before, joined, SerialJoins}
use Rattle.rules_program.specs.Plain.{Attempt, Plain, transaction, Order, commit_of, and_commit, after_order, serial}
use Rattle.rules_program.specs.Program.{Program}

joined-commit : (c : Commit) (x : Option (Plain × List Commit)) (more : Plain → Option (Plain × List Commit))
    → and_commit c (joined x more) ≡ joined (and_commit c x) more
joined-commit c None more = refl
joined-commit c (Some x) more = go (more x.0)
  where
    go : (y : Option (Plain × List Commit)) → and_commit c (with_before x.1 y) ≡ with_before (c ∷ x.1) y
    go None = refl
    go (Some r) = refl

pub serial-append : SerialJoins
unfolding serial
serial-append base p last [] late m = go (serial base p last late m)
  where
    go : (y : Option (Plain × List Commit)) → y ≡ with_before [] y
    go None = refl
    go (Some r) = refl
serial-append base p last (o ∷ early) late m =
    go (nat_lt last o.tid) (transaction base p m o.core o.n) (λ k. serial-append base p o.tid early late k)
  where
    go : (b : Bool) (t : Option (Plain × Attempt))
        → ((k : Plain) → serial base p o.tid (early ++ late) k
        ≡ joined (serial base p o.tid early k) (serial base p (last_tid o.tid early) late))
        → (if b then after_order (serial base p o.tid (early ++ late)) o t else None)
        ≡ joined (if b then after_order (serial base p o.tid early) o t else None) (serial base p (last_tid o.tid early) late)
    go false t h = refl
    go true None h = refl
    go true (Some d) h =
        rw (h d.0) (joined-commit (commit_of o d.1) (serial base p o.tid early d.0) (serial base p (last_tid o.tid early) late))

-- one more order whose TID rises and that is a transaction
pub serial-snoc : (base : ℕ) (p : Program) (last : ℕ) (os : List Order) (o : Order) (m : Plain) (r : Plain × List Commit)
    (d : Plain × Attempt) → serial base p last os m ≡ Some r → nat_lt (last_tid last os) o.tid ≡ true
    → transaction base p r.0 o.core o.n ≡ Some d
    → serial base p last (os ++ o ∷ []) m ≡ Some (d.0, r.1 ++ commit_of o d.1 ∷ [])
unfolding serial
serial-snoc base p last os o m r d is rises does =
    serial-append base p last os (o ∷ []) m ∙ rw (is, rises, does) refl

pub last_tid-snoc : (last : ℕ) (os : List Order) (o : Order) → last_tid last (os ++ o ∷ []) ≡ o.tid
last_tid-snoc last [] o = refl
last_tid-snoc last (x ∷ os) o = last_tid-snoc x.tid os o
