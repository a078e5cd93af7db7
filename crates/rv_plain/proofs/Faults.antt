-- Which instruction is at fault.
use Rattle.image_load.specs.Contents.{started}
use Rattle.std.proofs.Common.{ℕ, zero, suc, ◌≡◌, ◌+◌, ◌-◌, ◌<◌, Option, Some, None, Result, Ok, Err, IfErr, IsSomeAnd, refl, add-one}
use Rattle.std.proofs.Common.{add-zero, inl, inr, arith, subst}
use Rattle.std.proofs.Math.Nat.{add-suc}
use Rattle.rv_plain.specs.Endings.{IsFault, IsCoreFault}
use Rattle.rv_exec.specs.Outcomes.{HasEnded}
use Rattle.rv_code.specs.Machine.{program}
use Rattle.rv_plain.specs.PlainState.{PlainState, plain_of, IsPlainFault, HasNoTransaction}
use Rattle.rv_plain.specs.declared.plain.PlainFault.{PlainFault}
use Rattle.rv_plain.specs.declared.plain.PlainFault.TheVariants.{NotEnding, Memory}
use Rattle.tcc_base.specs.declared.access.CoreEnd.{CoreEnd}
use Rattle.tcc_base.specs.declared.access.CoreEnd.TheVariants.{Run, Halt, Trap}
use Rattle.rules_program.specs.Plain.{Attempt, Outcome, Goes, Ended, Halted, Trapped, Plain, steps, begun, transaction, close_if, if_runs}
use Rattle.rules_program.specs.Plain.{when_going}
use Rattle.rules_program.specs.Program.{Program}

pub fault-early : (st : ℕ → Option Attempt) (n k : ℕ) (a : Attempt) → k < n → (k + 1 ≡ n → ⊥) → st (k + 1) ≡ Some a
    → HasEnded a.outcome → IsFault st n (NotEnding (k + 1))
fault-early st n k a lt ne is ended =
    let less : suc k < n = omega (arith, ne) in
    let at : st (suc k) ≡ Some a = rw (← add-one k) is in
    rw (add-one k) (inl (less, rw at ended))

pub fault-past : (st : ℕ → Option Attempt) (n : ℕ) (a : Attempt) → st n ≡ Some a → a.outcome ≡ Goes
    → IsFault st n (NotEnding n)
fault-past st zero a is goes = refl
fault-past st (suc j) a is goes = inr (refl, rw is goes)

-- no instruction follows one that ends the transaction
pub none-after : (base : ℕ) (p : Program) (a : Attempt) (o : Outcome) → HasEnded o → when_going base p a o ≡ None
none-after base p a Goes h = absurd h
none-after base p a Ended h = refl
none-after base p a (Halted code) h = refl
none-after base p a (Trapped code) h = refl

pub steps-none : (base : ℕ) (p : Program) (start : Attempt) (k d : ℕ) → steps base p (suc k) start ≡ None
    → steps base p (suc k + d) start ≡ None
unfolding steps
steps-none base p start k zero h = simp add-zero h
steps-none base p start k (suc d) h = simp add-suc (rw (steps-none base p start k d h) refl)

steps-ended : (base : ℕ) (p : Program) (start : Attempt) (k : ℕ) → IsSomeAnd (steps base p k start) (λ a. HasEnded a.outcome)
    → steps base p (suc k) start ≡ None
unfolding steps
steps-ended base p start k h = go (steps base p k start) refl h
  where
    go : (x : Option Attempt) → steps base p k start ≡ x → IsSomeAnd x (λ a. HasEnded a.outcome)
        → steps base p (suc k) start ≡ None
    go None e h = absurd h
    go (Some a) e h = rw e (none-after base p a a.outcome h)

pub steps-past : (base : ℕ) (p : Program) (start : Attempt) (k n : ℕ) → k < n
    → IsSomeAnd (steps base p k start) (λ a. HasEnded a.outcome) → steps base p n start ≡ None
steps-past base p start k n lt h =
    let e : suc k + (n - suc k) ≡ n = omega arith in
    subst (λ j. steps base p j start ≡ None) e (steps-none base p start k (n - suc k) (steps-ended base p start k h))

close_if-going : (m : Plain) (core : ℕ) (x : Option Attempt) → IsSomeAnd x (λ a. a.outcome ≡ Goes) → close_if m core x ≡ None
close_if-going m core None h = refl
close_if-going m core (Some a) h = rw h refl

close_if-fault : (base : ℕ) (p : Program) (m : Plain) (core n k : ℕ) (start : Attempt) → start.outcome ≡ Goes
    → IsFault (λ j. steps base p j start) n (NotEnding k) → close_if m core (steps base p n start) ≡ None
unfolding steps
close_if-fault base p m core n zero start goes h = rw (h, goes) refl
close_if-fault base p m core n (suc j) start goes h =
    elim h [
      | inl e ↦ rw (steps-past base p start (suc j) n e.0 e.1) refl
      | inr e ↦ rw (← e.0) (close_if-going m core (steps base p (suc j) start) e.1)
    ]

core-fault : (base : ℕ) (p : Program) (m : Plain) (core n k : ℕ) (end : CoreEnd)
    → IsCoreFault end (λ j. steps base p j (begun (m.cores core).local m.ram)) n (NotEnding k)
    → if_runs end (close_if m core (steps base p n (begun (m.cores core).local m.ram))) ≡ None
unfolding begun
core-fault base p m core n k Run h = close_if-fault base p m core n k (begun (m.cores core).local m.ram) refl h
core-fault base p m core n k (Halt code) h = refl
core-fault base p m core n k (Trap code) h = refl

no_transaction : (s : PlainState) (core n : ℕ) (f : PlainFault) → IsPlainFault s core n f → HasNoTransaction s core n f
unfolding plain_of transaction
no_transaction s core n (NotEnding k) h =
    core-fault s.loaded.settings.base (program (started s.loaded)) (plain_of s) core n k
    ((plain_of s).cores core).ended h
no_transaction s core n Memory h = tt

pub no_transaction-if : {A : Type 0} (s : PlainState) (core n : ℕ) (r : Result A PlainFault)
    → IfErr r (IsPlainFault s core n) → IfErr r (HasNoTransaction s core n)
no_transaction-if s core n (Err f) h = no_transaction s core n f h
no_transaction-if s core n (Ok d) h = tt
