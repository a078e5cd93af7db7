-- A core's next transaction has one number of instructions.
use Rattle.std.proofs.Common.{ℕ, ◌≡◌, ◌-◌, ◌<◌, ◌≤◌, inl, inr, Option, Some, None, IfSome, IsSomeAnd}
use Rattle.std.proofs.Common.{refl, sym, ◌∙◌, arith, subst}
use Rattle.std.proofs.lemmas.Bool.{cases_lt}
use Rattle.rv_exec.specs.Outcomes.{HasEnded}
use Rattle.tcc_base.specs.declared.access.CoreEnd.{CoreEnd}
use Rattle.tcc_base.specs.declared.access.CoreEnd.TheVariants.{Run, Halt, Trap}
use Rattle.rules_program.specs.Plain.{Attempt, Outcome, Goes, Ended, Halted, Trapped, Plain, steps, begun, transaction, close}
use Rattle.rules_program.specs.Plain.{close_if, if_runs, end_of}
use Rattle.rules_program.specs.Program.{Program}
use Rattle.rv_plain.proofs.Lemmas.{steps-past}

closes : (m : Plain) (core : ℕ) (a : Attempt) (o : Outcome) → IsSomeAnd (close m core a (end_of o)) (λ r. Unit {0}) → HasEnded o
closes m core a Goes h = absurd h
closes m core a Ended h = tt
closes m core a (Halted code) h = tt
closes m core a (Trapped code) h = tt

runs-ended : (m : Plain) (core : ℕ) (end : CoreEnd) (x : Option Attempt)
    → IsSomeAnd (if_runs end (close_if m core x)) (λ r. Unit {0}) → IsSomeAnd x (λ a. HasEnded a.outcome)
runs-ended m core Run None h = absurd h
runs-ended m core Run (Some a) h = closes m core a a.outcome h
runs-ended m core (Halt code) x h = absurd h
runs-ended m core (Trap code) x h = absurd h

none-runs : (m : Plain) (core : ℕ) (end : CoreEnd) → if_runs end (close_if m core None) ≡ None
none-runs m core Run = refl
none-runs m core (Halt code) = refl
none-runs m core (Trap code) = refl

-- where k instructions are the transaction, no more of them are one
pub transaction-past : (base : ℕ) (p : Program) (m : Plain) (core k n : ℕ) → k < n
    → IsSomeAnd (transaction base p m core k) (λ r. Unit {0}) → transaction base p m core n ≡ None
unfolding transaction
transaction-past base p m core k n lt h =
    let c = m.cores core in
    rw (steps-past base p (begun c.local m.ram) k n lt
    (runs-ended m core c.ended (steps base p k (begun c.local m.ram)) h)) (none-runs m core c.ended)

-- where so many instructions don't end the core's transaction, no fewer do
pub not-yet : (base : ℕ) (p : Program) (m : Plain) (core n longest : ℕ) → n ≤ longest
    → IsSomeAnd (steps base p longest (begun (m.cores core).local m.ram)) (λ a. a.outcome ≡ Goes)
    → IsSomeAnd (transaction base p m core n) (λ r. Unit {0}) → ⊥
unfolding transaction
not-yet base p m core n longest le goes h =
    let c = m.cores core in
    let start = begun c.local m.ram in
    let ended = runs-ended m core c.ended (steps base p n start) h in
    elim (cases_lt n longest) [
      | inl lt ↦ gone (steps base p longest start) (steps-past base p start n longest lt ended) goes
      | inr ge ↦
          let e : n ≡ longest = omega (arith, le, ge) in
          both (steps base p longest start) (subst (λ j. IsSomeAnd (steps base p j start) (λ a. HasEnded a.outcome)) e ended) goes
    ]
  where
    gone : (x : Option Attempt) → x ≡ None → IsSomeAnd x (λ a. a.outcome ≡ Goes) → ⊥
    gone x e h' = subst (λ y. IsSomeAnd y (λ a. a.outcome ≡ Goes)) e h'

    both : (x : Option Attempt) → IsSomeAnd x (λ a. HasEnded a.outcome) → IsSomeAnd x (λ a. a.outcome ≡ Goes) → ⊥
    both None e g = absurd e
    both (Some a) e g = subst HasEnded g e

-- what holds of the machine after one transaction of the core holds after whatever is its next one
pub by-one : (base : ℕ) (p : Program) (m : Plain) (core n : ℕ) (r : Plain × Attempt) (Q : Plain → Type 0)
    → transaction base p m core n ≡ Some r → Q r.0 → (k : ℕ) → IfSome (transaction base p m core k) (λ y. Q y.0)
by-one base p m core n r Q is has k =
    elim (cases_lt k n) [
      | inl lt ↦ before (transaction base p m core k) (λ h. transaction-past base p m core k n lt h)
      | inr le ↦ elim (cases_lt n k) [
        | inl more ↦ rw (transaction-past base p m core n k more (rw is tt)) tt
        | inr same ↦ let e : k ≡ n = omega arith in rw (e, is) has
      ]
    ]
  where
    before : (x : Option (Plain × Attempt)) → (IsSomeAnd x (λ y. Unit {0}) → transaction base p m core n ≡ None)
        → IfSome x (λ y. Q y.0)
    before None h = tt
    before (Some y) h = absurd (subst (λ x. IfSome x (λ z. ⊥)) (sym (h tt) ∙ is) tt)
