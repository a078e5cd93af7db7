-- How many transactions an exploration has executed: one of each core that runs, in each state.
use Rattle.std.specs.Prelude.{ℕ, zero, suc, ◌+◌, ◌-◌, ◌^◌, ◌≡◌, List, min}
use Rattle.run_outcomes.specs.Explored.{state_at}
use Rattle.run_outcomes.specs.States.{core_in}
use Rattle.run_outcomes.specs.declared.states.Snapshot.{Snapshot}
use Rattle.tcc_base.specs.declared.access.CoreEnd.{CoreEnd}
use Rattle.tcc_base.specs.declared.access.CoreEnd.TheVariants.{Run, Halt, Trap}

-- the sum of f over the numbers below n
unfoldable pub total : (ℕ → ℕ) → (n : ℕ) → ℕ
total f zero = 0
total f (suc n) = total f n + f n

-- 1 of a core that runs
abbrev pub runs : CoreEnd → ℕ
runs Run = 1
runs (Halt code) = 0
runs (Trap code) = 0

-- how many of the first so many cores of a state run
abbrev pub running : Snapshot → (cores : ℕ) → ℕ
running s cores = total (λ core. runs (core_in s core).ended) cores

-- how many cores run in each of the first so many states, all together
abbrev pub all_running : (cores : ℕ) → List Snapshot → (count : ℕ) → ℕ
all_running cores states count = total (λ k. running (state_at states k) cores) count

-- a count of 64 bits is exact, or has come to the largest number, where it stays
abbrev pub Counts : (count exact : ℕ) → Type 0
Counts count exact = count ≡ min exact (2 ^ 64 - 1)
