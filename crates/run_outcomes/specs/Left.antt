-- What an attempt that has ended leaves of its core and of RAM.
use Rattle.std.specs.Prelude.{ℕ, ◌++◌, ◌≡◌, true, List, Some, IfSome, All, Contains, length}
use Rattle.run_outcomes.specs.Changes.{value_in, AreInside, AreNormal}
use Rattle.run_outcomes.specs.declared.next.Next.{Next}
use Rattle.run_outcomes.specs.declared.next.Next.TheVariants.{Stopped, Endless, Leads}
use Rattle.rv_code.specs.Machine.{in_ram}
use Rattle.rv_exec.specs.Outcomes.{outcome_of}
use Rattle.rv_plain.specs.Buffered.{seen}
use Rattle.rv_plain.specs.Store.{Store, buffer_of}
use Rattle.rv_plain.specs.declared.attempt.Attempt.{Attempt}
use Rattle.rv_exec.specs.declared.outcome.Outcome.{Outcome}
use Rattle.rv_plain.specs.declared.plain.CoreState.{CoreState}
use Rattle.tcc_base.specs.Settings.{Settings}
use Rattle.tcc_base.specs.declared.access.Stored.{Stored}
use Rattle.rules_program.specs.Plain.{end_of}
use Rattle.rules_program.specs.Ram.{flat, word_of}

-- each store lies in RAM
abbrev pub AreStoresInside : Settings → List Stored → Type 0
AreStoresInside s stores = All (λ store. in_ram s store.addr store.size ≡ true) stores

-- neither one of the changes nor a store is to this word
pub record IsUntouched (base : ℕ) (changes : List (ℕ × ℕ)) (stores : List Stored) (w : ℕ) : Type 0 where
  pub unchanged : All (λ change. change.0 ≡ w → ⊥) changes
  pub unstored : All (λ store. word_of base store.addr ≡ w → ⊥) stores

-- the memory as the core sees it
abbrev pub sees : Store → ℕ → ℕ
sees m = seen (flat m.ram) (buffer_of m.waiting)

-- a list of words with their values tells how this memory sees each of these words, and no word otherwise than it is seen
pub record IsTold (m : Store) (words : List ℕ) (left : List (ℕ × ℕ)) : Type 0 where
  pub right : (w : ℕ) → IfSome (value_in left w) (λ value. value ≡ sees m w)
  pub all : (w : ℕ) → Contains words w → seen (flat m.ram) (value_in left) w ≡ sees m w

-- the core and the changes that an attempt over this memory leaves of a core with these changes
pub record Leaves (base : ℕ) (m : Store) (core : CoreState) (changes : List (ℕ × ℕ)) (a : Attempt) (o : Outcome) (after : CoreState)
    (left : List (ℕ × ℕ)) : Type 0 where
  pub state : after.state ≡ a.state
  pub ends : end_of (outcome_of o) ≡ Some after.ended
  pub prints : after.console ≡ core.console ++ a.console
  pub inside : AreInside (length m.ram) left
  pub normal : AreNormal (flat m.ram) left
  pub ram : (w : ℕ) → (IsUntouched base changes a.stores w → flat m.ram w ≡ sees m w)
      → seen (flat m.ram) (value_in left) w ≡ sees m w

abbrev pub IsLeft : (base : ℕ) → Store → CoreState → (changes : List (ℕ × ℕ)) → Attempt → Outcome → Next → Type 0
IsLeft base m core changes a o Stopped = ⊥
IsLeft base m core changes a o Endless = ⊥
IsLeft base m core changes a o (Leads n after left) = (n ≡ a.n) × Leaves base m core changes a o after left
