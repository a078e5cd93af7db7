-- What is claimed of every run of the machine with one bus, for every program whose accesses fit and lie in memory.
use Rattle.std.specs.Prelude.{ℕ, ◌≡◌, ◌<◌, ◌≤◌, ◌+◌, List, [], ◌∷◌, length, IfSome}
use Rattle.tcc_base.specs.declared.access.Commit.{Commit as Noted}
use Rattle.rules_maps.specs.Shape.{Shape}
use Rattle.rules_program.specs.Plain.{Plain}
use Rattle.rules_program.specs.Program.{Local, Program}
use Rattle.theorem_serial.specs.Theorem.{Suits}
use Rattle.theorem_serial.specs.Commits.{CommitsSerial, CoreSerial}
use Rattle.rules_bus.specs.State.{BusEvent, bus_start}
use Rattle.rules_bus.specs.Step.{BusHistory, bus_run}
use Rattle.rules_bus.specs.Useful.{BusIsDone, bus_picked, bus_useful}

-- the TIDs count from this one
unfoldable pub AreNumbered : (first : ℕ) → List Noted → Type 0
AreNumbered t [] = Unit {0}
AreNumbered t (c ∷ cs) = (c.tid.0 ≡ t) × AreNumbered (t + 1) cs

-- A state is what a serial execution gives.
pub record BusIsSerial (sh : Shape) (p : Program) (entries : ℕ → Local) (ram : ℕ → ℕ) (h : BusHistory) : Type 0 where
  -- the plain machine after the commits
  pub plain : Plain
  -- The commits one after another on the plain machine give just these loads, stores and console bytes.
  pub commits : CommitsSerial sh p entries ram h.commits plain
  -- Each core's checkpoint, and whether and how it has halted, are the plain machine's.
  pub cores : (c : ℕ) → c < sh.cores → CoreSerial (h.world.cores c) (plain.cores c)
  -- Memory is the plain machine's.
  pub memory : (x : ℕ) → h.world.ram x ≡ plain.ram x
  -- TIDs count from 1.
  pub tids : AreNumbered 1 h.commits

abbrev pub BusRunsAreSerial : Type 0
BusRunsAreSerial =
    (sh : Shape) (p : Program) (entries : ℕ → Local) (ram : ℕ → ℕ) (es : List BusEvent) → Suits sh p ram
    → IfSome (bus_run sh p (bus_start entries ram) es) (BusIsSerial sh p entries ram)

-- caches have a set and a way
abbrev pub HasCaches : Shape → Type 0
HasCaches sh = (1 ≤ sh.sets) × (1 ≤ sh.ways)

-- Where no event is useful the state is done.
abbrev pub BusNeverStuck : Type 0
BusNeverStuck =
    (sh : Shape) (p : Program) (entries : ℕ → Local) (ram : ℕ → ℕ) (es : List BusEvent) → HasCaches sh
    → IfSome (bus_run sh p (bus_start entries ram) es) (λ h. bus_useful sh p h.world ≡ [] → BusIsDone sh h.world)

abbrev pub first_bus_history : (ℕ → Local) → (ram : ℕ → ℕ) → BusHistory
first_bus_history entries ram = record { world = bus_start entries ram; commits = [] }

-- A schedule that a chooser picks from a list of random words is a run, and has an event for each word or ends where all is done.
abbrev pub BusPickedEndsDone : Type 0
BusPickedEndsDone =
    (sh : Shape) (p : Program) (entries : ℕ → Local) (ram : ℕ → ℕ) (rs : List ℕ) → HasCaches sh
    → let es = bus_picked sh p rs (first_bus_history entries ram) in
    length es < length rs → IfSome (bus_run sh p (bus_start entries ram) es) (λ h. BusIsDone sh h.world)
