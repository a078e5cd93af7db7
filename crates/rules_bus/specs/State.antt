-- The machine with one bus (Hammond et al., "Transactional Memory Coherence and Consistency", ISCA 2004): cores, one memory, and a bus that
-- an arbiter gives to one core at a time. A core that commits sends a packet of what it wrote over it, which each other core takes.
--
-- The cores are those of the directory machine: the same instructions, caches, attempts and commits (`rules_tcc`). Of their phases four
-- occur: `Running`; `AwaitTid`, the transaction has ended and waits for the bus; `Solo`, the core has the bus until its transaction ends;
-- `Halted`. Between events no core awaits a line, and no word in a cache is dirty.
use Rattle.std.specs.Prelude.{ℕ, Bool, Option}
use Rattle.rules_program.specs.Program.{Local}
use Rattle.rules_tcc.specs.State.{CoreState, core_start}

pub data Bus : Type 0 where
  Free : Bus
  Alone : (core : ℕ) → Bus  -- this core executes alone
  Packet : (words : ℕ → Option ℕ) → (left : ℕ → Bool) → Bus  -- the words of a commit, and the cores that haven't taken it

pub record BusWorld : Type 0 where
  pub cores : ℕ → CoreState
  pub ram : ℕ → ℕ  -- by word
  pub next : ℕ  -- the TID of the next commit
  pub bus : Bus

-- what can happen
pub data BusEvent : Type 0 where
  Exec : (core : ℕ) → BusEvent
  Evict : (core set way : ℕ) → BusEvent
  Take : (core : ℕ) → BusEvent

-- every core runs with empty frames, memory is what was loaded, and the bus is free
unfoldable pub bus_start : (ℕ → Local) → (ram : ℕ → ℕ) → BusWorld
bus_start entries ram = record { cores = λ c. core_start (entries c); ram = ram; next = 1; bus = Free }
