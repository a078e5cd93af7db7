-- Where the instructions of a transaction end, and which of them is at fault where they are none.
use Rattle.std.specs.Prelude.{ℕ, zero, suc, ◌≡◌, ◌<◌, ◌⊎◌, Option, IsSomeAnd}
use Rattle.rv_plain.specs.declared.plain.PlainFault.{PlainFault}
use Rattle.rv_plain.specs.declared.plain.PlainFault.TheVariants.{NotEnding, Memory}
use Rattle.tcc_base.specs.declared.access.CoreEnd.{CoreEnd}
use Rattle.tcc_base.specs.declared.access.CoreEnd.TheVariants.{Run, Halt, Trap}
use Rattle.rules_program.specs.Plain.{Attempt, Goes}
use Rattle.rv_exec.specs.Outcomes.{HasEnded}

-- instruction k, from 1, ends the transaction of these instructions too early, or the last one doesn't end it
abbrev pub EndsEarly : (steps : ℕ → Option Attempt) → (n k : ℕ) → Type 0
EndsEarly steps n k = (k < n) × IsSomeAnd (steps k) (λ a. HasEnded a.outcome)

abbrev pub GoesPast : (steps : ℕ → Option Attempt) → (n k : ℕ) → Type 0
GoesPast steps n k = (k ≡ n) × IsSomeAnd (steps k) (λ a. a.outcome ≡ Goes)

-- what an error of running n instructions says: 0 where none was asked for, else the instruction at fault
abbrev pub IsFault : (steps : ℕ → Option Attempt) → (n : ℕ) → PlainFault → Type 0
IsFault steps n (NotEnding zero) = n ≡ 0
IsFault steps n (NotEnding (suc j)) = EndsEarly steps n (suc j) ⊎ GoesPast steps n (suc j)
IsFault steps n Memory = Unit {0}

-- the same of a core that may have halted before
abbrev pub IsCoreFault : CoreEnd → (steps : ℕ → Option Attempt) → (n : ℕ) → PlainFault → Type 0
IsCoreFault Run steps n fault = IsFault steps n fault
IsCoreFault (Halt code) steps n fault = fault ≡ NotEnding 0
IsCoreFault (Trap code) steps n fault = fault ≡ NotEnding 0
