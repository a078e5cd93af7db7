-- What a search has tried: the next transactions of the first so many pairs of a state and a core, and what it notes of them.
use Rattle.std.specs.Prelude.{ℕ, ◌≡◌, ◌==◌, ◌&&◌, ◌+◌, ◌*◌, ◌/◌, ◌%◌, ◌<◌, ◌≤◌, Bool, true, false, List, Option, Some, None}
use Rattle.std.specs.Prelude.{IfSome, IsSomeAnd, is_none, is_some, length}
use Rattle.image_load.specs.Contents.{Contents, started}
use Rattle.run_outcomes.specs.Counted.{Counts}
use Rattle.run_outcomes.specs.Explored.{IsEndless, state_at}
use Rattle.run_outcomes.specs.HowMany.{HowMany, IsFirst}
use Rattle.run_outcomes.specs.States.{machine_of}
use Rattle.run_outcomes.specs.Ways.{Explored}
use Rattle.run_outcomes.specs.declared.search.Limits.{Limits}
use Rattle.run_outcomes.specs.declared.search.Pair.{Pair}
use Rattle.run_outcomes.specs.declared.states.Snapshot.{Snapshot}
use Rattle.rv_code.specs.Machine.{program}
use Rattle.rules_program.specs.Plain.{Plain, Attempt, transaction}

-- pair number i: pairs are tried state by state, and in a state core by core
abbrev pub pair_at : (cores i : ℕ) → Pair
pair_at cores i = record { state = i / cores; core = record { 0 = i % cores } }

-- n instructions of the core, as a transaction from the state
abbrev pub transaction_of : Contents → List Snapshot → Pair → (n : ℕ) → Option (Plain × Attempt)
transaction_of l states pair n =
    transaction l.settings.base (program (started l)) (machine_of l (state_at states pair.state)) pair.core.0 n

-- at most so many instructions are the core's next transaction
abbrev pub EndsWithin : Contents → List Snapshot → (longest : ℕ) → Pair → Type 0
EndsWithin l states longest pair =
    (n : ℕ) × (n ≤ longest) × IsSomeAnd (transaction_of l states pair n) (λ r. Unit {0})

-- at most so many instructions are the core's next transaction, and the machine after it is none of these states
abbrev pub LeadsOut : Contents → List Snapshot → (longest : ℕ) → Pair → Type 0
LeadsOut l states longest pair =
    (n : ℕ) × (n ≤ longest)
    × IsSomeAnd (transaction_of l states pair n) (λ r. (k : ℕ) → k < length states → machine_of l (state_at states k) ≡ r.0 → ⊥)

abbrev pub EndsWithinAt : Contents → List Snapshot → (longest i : ℕ) → Type 0
EndsWithinAt l states longest i = EndsWithin l states longest (pair_at l.settings.cores i)

abbrev pub IsEndlessAt : Contents → List Snapshot → (longest i : ℕ) → Type 0
IsEndlessAt l states longest i = IsEndless l states longest (pair_at l.settings.cores i)

abbrev pub LeadsOutAt : Contents → List Snapshot → (longest i : ℕ) → Type 0
LeadsOutAt l states longest i = LeadsOut l states longest (pair_at l.settings.cores i)

-- so many of the numbers below n have the property, as a count of 64 bits tells it
abbrev pub IsCount : (P : ℕ → Type 0) → (n count : ℕ) → Type 0
IsCount P n count = (exact : ℕ) × HowMany P n exact × Counts count exact

-- the pair is the first one below n whose number has the property; None where none has
abbrev pub IsFirstPair : (P : ℕ → Type 0) → (cores n : ℕ) → Option Pair → Type 0
IsFirstPair P cores n None = IsFirst P n None
IsFirstPair P cores n (Some pair) = (first : ℕ) × IsFirst P n (Some first) × (pair ≡ pair_at cores first)

-- how many of n pairs are tried: all, or those up to one that leads out of the states
abbrev pub tried_of : (n : ℕ) → (out : Option ℕ) → ℕ
tried_of n None = n
tried_of n (Some out) = out + 1

-- Of n pairs those up to the first that leads out of the states were tried. Exactly so many transactions ended within `longest`
-- instructions, and exactly so many didn't; of these the first is known.
pub record AreTried (l : Contents) (states : List Snapshot) (longest n : ℕ) (out : Option ℕ) (transactions endless : ℕ)
    (at : Option Pair) : Type 0 where
  pub inside : n ≤ length states * l.settings.cores
  pub out_first : IsFirst (LeadsOutAt l states longest) n out
  pub counted : IsCount (EndsWithinAt l states longest) (tried_of n out) transactions
  pub endless_counted : IsCount (IsEndlessAt l states longest) (tried_of n out) endless
  pub endless_first : IsFirstPair (IsEndlessAt l states longest) l.settings.cores (tried_of n out) at

-- the pair, where it leads out
abbrev pub out_if : Bool → (i : ℕ) → Option ℕ
out_if true i = Some i
out_if false i = None

-- and one of them leads out, or none does
abbrev pub AreTriedTo : Contents → List Snapshot → (longest n : ℕ) → (full : Bool) → (transactions endless : ℕ) → Option Pair → Type 0
AreTriedTo l states longest n full transactions endless at =
    (out : Option ℕ) × (is_some out ≡ full) × AreTried l states longest n out transactions endless at

-- A search has tried the pairs of all cores with all states, up to the first that leads to a state for which there was no room. It is
-- done where there is no such pair, and each transaction ended.
pub record HasTried (limits : Limits) (e : Explored) : Type 0 where
  pub out : Option ℕ
  pub tried : AreTried e.loaded e.states limits.longest (length e.states * e.loaded.settings.cores) out e.transactions e.endless
      e.endless_at
  pub full : IfSome out (λ i. length e.states ≡ limits.states)
  pub done : e.done ≡ (is_none out && e.endless == 0)
