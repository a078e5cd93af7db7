-- A program's outcomes in the plain machine's words: what a serial execution tells once all cores have ended, and that a list of
-- results leaves none out.
use Rattle.std.specs.Prelude.{ℕ, ◌≡◌, ◌<◌, List, IfSome, length, slice_index_or}
use Rattle.image_load.specs.Contents.{Contents, started}
use Rattle.run_outcomes.specs.Explored.{state_at}
use Rattle.run_outcomes.specs.States.{machine_of}
use Rattle.run_outcomes.specs.declared.outcomes.Tell.{Tell}
use Rattle.run_outcomes.specs.declared.outcomes.Tell.TheVariants.{Consoles, Memory, Everything}
use Rattle.run_outcomes.specs.declared.states.Snapshot.{Snapshot}
use Rattle.rv_code.specs.Machine.{program}
use Rattle.rv_plain.specs.Machine.{plain_start}
use Rattle.tcc_base.specs.declared.access.CoreEnd.{CoreEnd}
use Rattle.tcc_base.specs.declared.access.CoreEnd.TheVariants.{Run}
use Rattle.rules_program.specs.Plain.{Plain, PlainCore, Order, serial}

-- all of so many cores have ended
abbrev pub HaveEnded : (cores : ℕ) → Plain → Type 0
HaveEnded cores m = (core : ℕ) → core < cores → (m.cores core).ended ≡ Run → ⊥

-- how a core ended and what it has printed
abbrev pub told_of : PlainCore → CoreEnd × List ℕ
told_of core = (core.ended, core.console)

abbrev pub TellSameConsoles : (cores : ℕ) → (a b : Plain) → Type 0
TellSameConsoles cores a b = (core : ℕ) → core < cores → told_of (a.cores core) ≡ told_of (b.cores core)

-- two machines tell the same: of each core how it ended and what it has printed; and RAM too; or all that they hold
abbrev pub TellTheSame : Tell → (cores : ℕ) → (a b : Plain) → Type 0
TellTheSame Consoles cores a b = TellSameConsoles cores a b
TellTheSame Memory cores a b = TellSameConsoles cores a b × (a.ram ≡ b.ram)
TellTheSame Everything cores a b = a ≡ b

-- one of these numbers is that of a state which tells the same as the machine
abbrev pub IsOutcome : Contents → Tell → List Snapshot → (firsts : List ℕ) → Plain → Type 0
IsOutcome l tell states firsts m =
    (i : ℕ) × (i < length firsts)
    × TellTheSame tell l.settings.cores (machine_of l (state_at states (slice_index_or firsts i 0))) m

-- whichever transactions the program executes, one after another, under whatever TIDs: where all cores have ended after them, the
-- machine tells one of these results
abbrev pub HasEveryOutcome : Contents → Tell → List Snapshot → (firsts : List ℕ) → Type 0
HasEveryOutcome l tell states firsts =
    (last : ℕ) (orders : List Order)
    → IfSome (serial l.settings.base (program (started l)) last orders (plain_start (started l)))
    (λ r. HaveEnded l.settings.cores r.0 → IsOutcome l tell states firsts r.0)
