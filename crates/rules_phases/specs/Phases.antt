-- Phases of ordered transactions, as in Hammond et al., "Transactional Memory Coherence and Consistency" (ISCA 2004): of transactions in
-- different phases the earlier phase commits first. A program says in register x27 in which phase its next transaction is; a core's phase
-- never falls.
use Rattle.std.specs.Prelude.{ℕ, List, [], ◌∷◌, map, max, Option, Some, None}
use Rattle.image_load.specs.Start.{Start}
use Rattle.rv_code.specs.Machine.{program}
use Rattle.rv_plain.specs.Machine.{plain_start}
use Rattle.tcc_base.specs.Put.{put}
use Rattle.rules_program.specs.Orders.{order_of_commit}
use Rattle.rules_program.specs.Plain.{Plain, Attempt, Order, transaction}
use Rattle.rules_program.specs.Program.{Local, Program}
use Rattle.rules_program.specs.Registers.{register}
use Rattle.rules_tcc.specs.Step.{History}

-- what a program sets as the phase
abbrev pub x27 : Local → ℕ
x27 l = register l.regs 27

-- the phases of transactions, one after another on the plain machine
pub record Phases : Type 0 where
  pub each : List ℕ  -- of each transaction
  pub last : ℕ → ℕ  -- of the last one of each core; 0 where it has none

-- one more in front
abbrev pub and_phase : ℕ → Phases → Phases
and_phase q ps = record ps { each = q ∷ ps.each }

abbrev pub on_success : (rest : Plain → Phases) → (last : ℕ → ℕ) → Option (Plain × Attempt) → Phases
on_success rest last None = record { each = []; last = last }
on_success rest last (Some done) = rest done.0

-- The phase of a transaction is the greatest value that x27 of its core had at the starts of the core's transactions up to and
-- including this one. `last` has the phase of each core's last transaction before these.
unfoldable pub phases_along : (base : ℕ) → Program → (last : ℕ → ℕ) → List Order → Plain → Phases
phases_along base p last [] m = record { each = []; last = last }
phases_along base p last (o ∷ os) m =
    let q = max (last o.core) (x27 (m.cores o.core).local) in
    and_phase q (on_success (phases_along base p (put last o.core q) os) (put last o.core q) (transaction base p m o.core o.n))

-- those of the commits so far, by rising TID
unfoldable pub phases_in : Start → History → Phases
phases_in s h = phases_along s.settings.base (program s) (λ c. 0) (map order_of_commit h.commits) (plain_start s)

-- one for each commit
unfoldable pub phases_of : Start → History → List ℕ
phases_of s h = (phases_in s h).each

-- the phase of the transaction that a core is at, which began at its checkpoint
unfoldable pub phase_of : Start → History → (core : ℕ) → ℕ
phase_of s h c = max ((phases_in s h).last c) (x27 (h.world.cores c).saved)
