-- What a search through the states of a loaded program knows.
use Rattle.std.specs.Prelude.{ℕ, ◌≡◌, ◌<◌, ◌/◌, ◌⊎◌, List, [], ◌∷◌, ◌++◌, All, IsSomeAnd}
use Rattle.std.specs.Prelude.{length, map, slice_index_or}
use Rattle.image_load.specs.Contents.{Contents, started}
use Rattle.run_outcomes.specs.Changes.{AreInside, AreNormal}
use Rattle.run_outcomes.specs.Next.{IsNext}
use Rattle.run_outcomes.specs.Serially.{IsFollowed, IsReached, HasEveryEnd}
use Rattle.run_outcomes.specs.States.{machine_of, core_in}
use Rattle.run_outcomes.specs.declared.next.Next.TheVariants.{Endless}
use Rattle.run_outcomes.specs.declared.search.Pair.{Pair}
use Rattle.run_outcomes.specs.declared.search.Way.{Way}
use Rattle.run_outcomes.specs.declared.states.Place.{Place}
use Rattle.run_outcomes.specs.declared.states.Place.TheVariants.{Known, New, Full}
use Rattle.run_outcomes.specs.declared.states.Snapshot.{Snapshot}
use Rattle.rv_code.specs.Machine.{program}
use Rattle.image_load.specs.Start.{first_ram}
use Rattle.rv_plain.specs.Machine.{plain_start}
use Rattle.rules_program.specs.Plain.{Plain, transaction}

abbrev pub no_snapshot : Snapshot
no_snapshot = record { cores = []; changes = [] }

-- the state of that number
abbrev pub state_at : List Snapshot → ℕ → Snapshot
state_at states k = slice_index_or states k no_snapshot

-- the machines that states stand for
abbrev pub machines : Contents → List Snapshot → List Plain
machines l states = map (machine_of l) states

-- some serial execution from the program's start leads to the state
abbrev pub IsReachedState : Contents → Snapshot → Type 0
IsReachedState l s = IsReached l.settings.base (program (started l)) (plain_start (started l)) (machine_of l s)

-- whatever the next transaction of this core of this state is, it leads to one of the states
abbrev pub IsFollowedAt : Contents → List Snapshot → (k core : ℕ) → Type 0
IsFollowedAt l states k core =
    IsFollowed l.settings.base (program (started l)) (machines l states) (machine_of l (state_at states k)) core

-- each serial execution from the program's start ends in one of the states
abbrev pub AreAllStates : Contents → List Snapshot → Type 0
AreAllStates l states = HasEveryEnd l.settings.base (program (started l)) (machines l states) (plain_start (started l))

-- some serial execution ends in a state that isn't among these
abbrev pub HasFurther : Contents → List Snapshot → Type 0
HasFurther l states =
    (s : Snapshot) × IsReachedState l s
    × ((k : ℕ) → k < length states → machine_of l (state_at states k) ≡ machine_of l s → ⊥)

-- why not all states were found: a transaction didn't end, or there were as many as the limit allows and there is a further one
abbrev pub IsOpen : Contents → List Snapshot → (limit endless : ℕ) → Type 0
IsOpen l states limit endless = (0 < endless) ⊎ ((length states ≡ limit) × HasFurther l states)

-- each state stands there once: two numbers of the same machine are the same number
abbrev pub AreOnce : Contents → List Snapshot → Type 0
AreOnce l states =
    (i j : ℕ) → i < length states → j < length states
    → machine_of l (state_at states i) ≡ machine_of l (state_at states j) → i ≡ j

-- states that were found, each once: the program's start, and others that serial executions reach
pub record AreFound (l : Contents) (states : List Snapshot) : Type 0 where
  pub some : 0 < length states
  pub first : machine_of l (state_at states 0) ≡ plain_start (started l)
  pub inside : All (λ s. AreInside (l.settings.ram / 4) s.changes) states
  pub sized : All (λ s. length s.cores ≡ l.settings.cores) states
  pub normal : All (λ s. AreNormal (first_ram (started l)) s.changes) states
  pub reached : All (IsReachedState l) states
  pub once : AreOnce l states

-- a list has those and further ones
abbrev pub IsGrown : {X : Type 0} → (old new : List X) → Type 0
IsGrown {X} old new = (more : List X) × (new ≡ old ++ more)

abbrev pub no_way : Way
no_way = record { from = 0; core = record { 0 = 0 }; n = 0 }

-- by which transaction the state of that number was found
abbrev pub way_at : List Way → ℕ → Way
way_at ways k = slice_index_or ways k no_way

-- the transaction leads to the state of that number, from one before it
pub record IsWay (l : Contents) (states : List Snapshot) (way : Way) (k : ℕ) : Type 0 where
  pub before : way.from < k
  pub leads : IsSomeAnd (transaction l.settings.base (program (started l)) (machine_of l (state_at states way.from)) way.core.0 way.n)
      (λ r. machine_of l (state_at states k) ≡ r.0)

-- each state but the first was found by its transaction
pub record AreLed (l : Contents) (states : List Snapshot) (ways : List Way) : Type 0 where
  pub counted : length ways ≡ length states
  pub led : (k : ℕ) → 0 < k → k < length states → IsWay l states (way_at ways k) k

-- the way to a state is noted where it is new
abbrev pub IsNoted : (old new : List Way) → Place → Way → Type 0
IsNoted old new (Known number) way = new ≡ old
IsNoted old new (New number) way = new ≡ old ++ way ∷ []
IsNoted old new Full way = new ≡ old

-- the state is among these, and so many instructions of its core, which runs, don't end a transaction
abbrev pub IsEndless : Contents → List Snapshot → (longest : ℕ) → Pair → Type 0
IsEndless l states longest pair =
    (pair.state < length states) × (pair.core.0 < l.settings.cores)
    × IsNext l (core_in (state_at states pair.state) pair.core.0) (state_at states pair.state).changes longest Endless
