-- A state of the plain machine as data, and the machine that it stands for.
use Rattle.std.specs.Prelude.{ℕ, ◌≡◌, ◌<◌, ◌≤◌, List, [], ◌∷◌, ◌++◌, Contains, length, slice_index_or, slice_set}
use Rattle.image_load.specs.Contents.{Contents}
use Rattle.run_outcomes.specs.Changes.{changed_ram}
use Rattle.run_outcomes.specs.declared.states.Place.{Place}
use Rattle.run_outcomes.specs.declared.states.Place.TheVariants.{Known, New, Full}
use Rattle.run_outcomes.specs.declared.states.Snapshot.{Snapshot}
use Rattle.rv_plain.specs.Cores.{core_of, no_state}
use Rattle.rv_plain.specs.declared.plain.CoreState.{CoreState}
use Rattle.rules_program.specs.Plain.{Plain}

-- the core of a state
abbrev pub core_in : Snapshot → (core : ℕ) → CoreState
core_in s c = slice_index_or s.cores c no_state

unfoldable pub machine_of : Contents → Snapshot → Plain
machine_of l s = record { ram = changed_ram l s.changes; cores = λ c. core_of (core_in s c) }

-- the state after a transaction of one of its cores
abbrev pub after_core : Snapshot → (core : ℕ) → CoreState → (changes : List (ℕ × ℕ)) → Snapshot
after_core s c core changes = record { cores = slice_set s.cores c core; changes = changes }

-- the state has that number among these
abbrev pub IsNumbered : List Snapshot → Snapshot → (number : ℕ) → Type 0
IsNumbered states s number = (number < length states) × (slice_index_or states number s ≡ s)

-- what became of a state that was to be added to these, of which there may be so many
abbrev pub IsPlaced : (old new : List Snapshot) → Snapshot → (limit : ℕ) → Place → Type 0
IsPlaced old new s limit (Known number) = (new ≡ old) × IsNumbered old s number
IsPlaced old new s limit (New number) =
    (new ≡ old ++ s ∷ []) × (length old < limit) × (Contains old s → ⊥) × (number ≡ length old)
IsPlaced old new s limit Full = (new ≡ old) × (limit ≤ length old) × (Contains old s → ⊥)
