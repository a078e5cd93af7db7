-- Two serial executions from one machine whose orders are by the same cores have the same numbers of instructions.
use Rattle.std.proofs.Common.{◌≡◌, ℕ, inl, inr, Bool, true, false, List, [], ◌∷◌, length, map, take, drop, Option, Some, None}
use Rattle.std.proofs.Common.{is_some, if◌then◌else◌, nat_lt, refl, ap, sym, ◌∙◌, subst, arith}
use Rattle.std.proofs.lemmas.Bool.{cases_lt}
use Rattle.std.proofs.lemmas.List.{append-nil, take-append-drop}
use Rattle.std.specs.Prelude.{IsSome, ◌++◌}
use Rattle.run_outcomes.proofs.Lemmas.{transaction-past}
use Rattle.tcc_base.specs.declared.access.Commit.{Commit as Noted}
use Rattle.tcc_base.specs.declared.access.CoreEnd.{CoreEnd}
use Rattle.tcc_base.specs.declared.access.CoreEnd.TheVariants.{Run, Halt, Trap}
use Rattle.rules_program.specs.Orders.{order_of_commit}
use Rattle.rules_program.specs.Plain.{Attempt, Order, Plain, after_order, and_commit, commit_of, if_runs, serial, transaction}
use Rattle.rules_program.specs.Program.{Program}
use Rattle.run_follow.specs.Following.{Agree}
use Rattle.run_follow.proofs.InTurn.{AreFirst}

-- a core has one next transaction
one-length : (base : ℕ) (p : Program) (m : Plain) (core k n : ℕ) (x y : Plain × Attempt) → transaction base p m core k ≡ Some x
    → transaction base p m core n ≡ Some y → k ≡ n
one-length base p m core k n x y a b =
    elim (cases_lt k n) [
      | inl lt ↦ absurd (let none = transaction-past base p m core k n lt (rw a tt) in cc)
      | inr le ↦ elim (cases_lt n k) [
        | inl more ↦ absurd (let none = transaction-past base p m core n k more (rw b tt) in cc)
        | inr same ↦ omega arith
      ]
    ]

-- the first of the orders is a transaction, and the others follow from there
record Begins (base : ℕ) (p : Program) (o : Order) (os : List Order) (m : Plain) (r : Plain × List Noted) : Type 0 where
  done : Plain × Attempt
  does : transaction base p m o.core o.n ≡ Some done
  more : List Noted
  rest : serial base p o.tid os done.0 ≡ Some (r.0, more)

begins : (base : ℕ) (p : Program) (last : ℕ) (o : Order) (os : List Order) (m : Plain) (r : Plain × List Noted)
    → serial base p last (o ∷ os) m ≡ Some r → Begins base p o os m r
unfolding serial
begins base p last o os m r e = go (nat_lt last o.tid) (transaction base p m o.core o.n) refl e
  where
    closed : (d : Plain × Attempt) → transaction base p m o.core o.n ≡ Some d → (x : Option (Plain × List Noted))
        → serial base p o.tid os d.0 ≡ x → and_commit (commit_of o d.1) x ≡ Some r → Begins base p o os m r
    closed d t None q h = absurd (cc)
    closed d t (Some (k, cs)) q h =
        let same : k ≡ r.0 = cc in record { done = d; does = t; more = cs; rest = rw q (ap (λ j. Some (j, cs)) same) }

    go : (b : Bool) (t : Option (Plain × Attempt)) → transaction base p m o.core o.n ≡ t
        → (if b then after_order (serial base p o.tid os) o t else None) ≡ Some r → Begins base p o os m r
    go false t q h = absurd (cc)
    go true None q h = absurd (cc)
    go true (Some d) q h = closed d q (serial base p o.tid os d.0) refl h

found : {A : Type 0} (x : Option A) → IsSome x → (a : A) × (x ≡ Some a)
found None h = absurd (cc)
found (Some a) h = (a, refl)

-- the commits are the first of the orders, and the others can be executed after them
pub record FirstPart (base : ℕ) (p : Program) (cs : List Noted) (os : List Order) (end : Plain) : Type 0 where
  pub agree : Agree cs (take (length cs) os)
  pub last : ℕ
  pub rest : IsSome (serial base p last (drop (length cs) os) end)

pub first-part : (base : ℕ) (p : Program) (a b : ℕ) (cs : List Noted) (os : List Order) (m : Plain) (r : Plain × List Noted)
    → AreFirst cs os → serial base p a (map order_of_commit cs) m ≡ Some r → IsSome (serial base p b os m)
    → FirstPart base p cs os r.0
unfolding AreFirst serial
first-part base p a b [] os m r f e s = let same : m ≡ r.0 = cc in record { agree = refl; last = b; rest = rw (sym same) s }
first-part base p a b (c ∷ cs) [] m r f e s = absurd f
first-part base p a b (c ∷ cs) (o ∷ os) m r f e s =
    let (end, all) = found (serial base p b (o ∷ os) m) s in
    let here = begins base p a (order_of_commit c) (map order_of_commit cs) m r e in
    let there = begins base p b o os m end all in
    let does = subst (λ core. transaction base p m core o.n ≡ Some there.done) (sym f.0) there.does in
    let n = one-length base p m c.core.0 c.n o.n here.done there.done here.does does in
    let again = subst (λ n. transaction base p m c.core.0 n ≡ Some there.done) (sym n) does in
    let same : here.done ≡ there.done = cc in
    let rest = subst (λ d. serial base p o.tid os d.0 ≡ Some (end.0, there.more)) (sym same) there.rest in
    let k = first-part base p c.tid.0 o.tid cs os here.done.0 (r.0, here.more) f.1 here.rest (ap is_some rest) in
    record { agree = λ i. (f.0 i, n i) ∷ k.agree i; last = k.last; rest = k.rest }

-- where all cores have ended no order can be executed
none-runs : {A : Type 0} (end : CoreEnd) (x : Option A) → (end ≡ Run → ⊥) → if_runs end x ≡ None
none-runs Run x h = absurd (h refl)
none-runs (Halt code) x h = refl
none-runs (Trap code) x h = refl

no-transaction : (base : ℕ) (p : Program) (m : Plain) (core n : ℕ) → ((m.cores core).ended ≡ Run → ⊥) → transaction base p m core n ≡ None
unfolding transaction
no-transaction base p m core n h = none-runs (m.cores core).ended _ h

-- the core of the first order runs
pub first-runs : (base : ℕ) (p : Program) (last : ℕ) (o : Order) (os : List Order) (m : Plain) → IsSome (serial base p last (o ∷ os) m)
    → ((m.cores o.core).ended ≡ Run → ⊥) → ⊥
first-runs base p last o os m s ended =
    let (end, all) = found (serial base p last (o ∷ os) m) s in
    let does = (begins base p last o os m end all).does in
    let none = no-transaction base p m o.core o.n ended in
    cc

none-left : (base : ℕ) (p : Program) (last : ℕ) (os : List Order) (m : Plain) → ((core : ℕ) → (m.cores core).ended ≡ Run → ⊥)
    → IsSome (serial base p last os m) → os ≡ []
none-left base p last [] m ended s = refl
none-left base p last (o ∷ os) m ended s = absurd (first-runs base p last o os m s (ended o.core))

pub all-of-them : (base : ℕ) (p : Program) (cs : List Noted) (os : List Order) (end : Plain) → FirstPart base p cs os end
    → ((core : ℕ) → (end.cores core).ended ≡ Run → ⊥) → Agree cs os
all-of-them base p cs os end k ended =
    let none = none-left base p k.last (drop (length cs) os) end ended k.rest in
    let whole : take (length cs) os ≡ os
    = sym (append-nil (take (length cs) os)) ∙ ap (λ xs. take (length cs) os ++ xs) (sym none) ∙ take-append-drop (length cs) os in
    subst (Agree cs) whole k.agree
