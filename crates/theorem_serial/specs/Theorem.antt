-- The theorem: every state that a run reaches has all of the list, and so a run is serial: its commits are what the plain machine gives
-- for them one after another, and its cores and its memory are that machine's.
use Rattle.std.specs.Prelude.{ℕ, ◌≤◌, List, IfSome}
use Rattle.rules_program.specs.Plain.{Plain}
use Rattle.rules_program.specs.Program.{Local, Program}
use Rattle.rules_maps.specs.Nodes.{Event}
use Rattle.rules_maps.specs.Shape.{Shape}
use Rattle.rules_tcc.specs.State.{start}
use Rattle.rules_tcc.specs.Step.{History, run}
use Rattle.theorem_attempt.specs.Follows.{Fits, IsSmall}
use Rattle.theorem_attempt.specs.Views.{no_views, views_from}
use Rattle.theorem_serial.specs.Commits.{CommitsSerial, CoresSerial, SeenSerial}
use Rattle.theorem_serial.specs.InMemory.{StaysInMemory}
use Rattle.theorem_serial.specs.Invariants.{Invariants, first_state}
use Rattle.theorem_serial.specs.Owners.{grants_from}
use Rattle.theorem_serial.specs.Ways.{first_ways, ways_from}

-- there is a directory, the program's accesses are aligned, fit and lie in memory, and memory has 32-bit words
pub record Suits (sh : Shape) (p : Program) (ram : ℕ → ℕ) : Type 0 where
  pub dirs : 1 ≤ sh.dirs
  pub fits : Fits p
  pub inside : StaysInMemory sh p
  pub small : IsSmall ram

-- with the grants, the ways and the views along the run, and for some plain machine
abbrev pub AllHold : Type 0
AllHold = (sh : Shape) (p : Program) (entries : ℕ → Local) (ram : ℕ → ℕ) (es : List Event) → Suits sh p ram →
    IfSome (run sh p (start entries ram) es)
    (λ h. (m : Plain) × Invariants sh p entries ram (grants_from sh p es (first_state entries ram))
    (ways_from sh p es first_ways (first_state entries ram)) (views_from sh p es no_views (first_state entries ram)) m h)

-- A state is what a serial execution gives.
pub record IsSerialExecution (sh : Shape) (p : Program) (entries : ℕ → Local) (ram : ℕ → ℕ) (h : History) : Type 0 where
  -- the plain machine after the commits
  pub plain : Plain
  -- The commits, by rising TID one after another on the plain machine, give just these loads, stores and console bytes.
  pub commits : CommitsSerial sh p entries ram h.commits plain
  -- Each core's checkpoint, and whether and how it has halted, are the plain machine's.
  pub cores : CoresSerial sh h.world plain
  -- What is seen of each word is the plain machine's memory.
  pub memory : SeenSerial sh h.world plain

-- Every state that a run reaches is what a serial execution gives.
abbrev pub RunsAreSerial : Type 0
RunsAreSerial = (sh : Shape) (p : Program) (entries : ℕ → Local) (ram : ℕ → ℕ) (es : List Event) → Suits sh p ram
    → IfSome (run sh p (start entries ram) es) (IsSerialExecution sh p entries ram)
