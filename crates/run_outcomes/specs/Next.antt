-- The next transaction of a core, to its end.
use Rattle.std.specs.Prelude.{ℕ, ◌≤◌, ◌/◌, ◌++◌, ◌≡◌, List, Option, Some, IsSomeAnd}
use Rattle.image_load.specs.Contents.{Contents, started}
use Rattle.run_outcomes.specs.Changes.{changed_ram, AreInside, AreNormal}
use Rattle.run_outcomes.specs.declared.next.Next.{Next}
use Rattle.run_outcomes.specs.declared.next.Next.TheVariants.{Stopped, Endless, Leads}
use Rattle.rv_code.specs.Machine.{program}
use Rattle.image_load.specs.Start.{first_ram}
use Rattle.rv_plain.specs.declared.plain.CoreState.{CoreState}
use Rattle.tcc_base.specs.declared.access.CoreEnd.TheVariants.{Run}
use Rattle.rules_program.specs.Plain.{Attempt, Goes, steps, begun, end_of}

-- the core's next instructions over this RAM, as a transaction
abbrev pub next_steps : Contents → CoreState → (ram : ℕ → ℕ) → (n : ℕ) → Option Attempt
next_steps l core ram n = steps l.settings.base (program (started l)) n (begun core.state ram)

-- a transaction of n instructions of the core leaves the core and RAM so
pub record LeadsTo (l : Contents) (core : CoreState) (before : ℕ → ℕ) (n : ℕ) (after : CoreState) (left : ℕ → ℕ) : Type 0 where
  pub attempt : Attempt
  pub runs : core.ended ≡ Run
  pub does : next_steps l core before n ≡ Some attempt
  pub ends : end_of attempt.outcome ≡ Some after.ended
  pub local : after.state ≡ attempt.local
  pub prints : after.console ≡ core.console ++ attempt.console
  pub ram : left ≡ attempt.ram

-- what is told of the next transaction of a core whose RAM has these changes: the core has halted; or it runs, and so many
-- instructions don't end its transaction; or its transaction has at most so many instructions and leaves this core and these changes,
-- as only one list tells them
abbrev pub IsNext : Contents → CoreState → (changes : List (ℕ × ℕ)) → (longest : ℕ) → Next → Type 0
IsNext l core changes longest Stopped = core.ended ≡ Run → ⊥
IsNext l core changes longest Endless =
    (core.ended ≡ Run) × IsSomeAnd (next_steps l core (changed_ram l changes) longest) (λ a. a.outcome ≡ Goes)
IsNext l core changes longest (Leads n after left) =
    (n ≤ longest) × AreInside (l.settings.ram / 4) left
    × LeadsTo l core (changed_ram l changes) n after (changed_ram l left)
    × AreNormal (first_ram (started l)) left
