-- That each event keeps the order of the commits: with a further commit at its place they are still what the plain machine gives.
use Rattle.std.specs.Prelude.{ℕ, ◌≤◌, List, IfSome}
use Rattle.rules_program.specs.Plain.{Plain}
use Rattle.rules_program.specs.Program.{Local, Program}
use Rattle.rules_maps.specs.Nodes.{Event}
use Rattle.rules_maps.specs.Shape.{Shape}
use Rattle.rules_tcc.specs.Step.{History, next_history}
use Rattle.theorem_attempt.specs.Follows.{Uses}
use Rattle.theorem_serial.specs.Theorem.{Suits}
use Rattle.theorem_serial.specs.Commits.{CommitsSerial, CoresSerial, SeenSerial}
use Rattle.theorem_serial.specs.Invariants.{Carried, CarriedInMemory, Invariants}
use Rattle.theorem_serial.specs.Owners.{Grant}
use Rattle.theorem_serial.specs.Values.{HomeWords, CopiesAbove}
use Rattle.theorem_serial.specs.Ways.{Ways}

-- The commits are what some plain machine's transactions gave, and the cores stand where this machine's do.
pub record IsSerial (sh : Shape) (p : Program) (entries : ℕ → Local) (ram : ℕ → ℕ) (h : History) : Type 0 where
  pub plain : Plain
  pub commits : CommitsSerial sh p entries ram h.commits plain
  pub cores : CoresSerial sh h.world plain

-- An event of a state that has the invariants of the list leaves the commits serial.
abbrev pub EventsKeepSerial : Type 0
EventsKeepSerial =
    (sh : Shape) (p : Program) (entries : ℕ → Local) (ram : ℕ → ℕ) (gs : List Grant) (ys : Ways) (views : ℕ → Uses) (m : Plain)
    (h : History) (e : Event)
    → Suits sh p ram → Invariants sh p entries ram gs ys views m h → IfSome (next_history sh p h e) (IsSerial sh p entries ram)

-- In a state that has the facts on TIDs, lines, copies and values, what is seen of each word is what the plain machine has after the
-- commits.
abbrev pub SeenFollows : Type 0
SeenFollows =
    (sh : Shape) (p : Program) (entries : ℕ → Local) (ram : ℕ → ℕ) (gs : List Grant) (ys : Ways) (m : Plain) (h : History)
    → 1 ≤ sh.dirs → Carried sh gs ys h → CarriedInMemory sh h → HomeWords sh ram h.world h.commits → CopiesAbove sh ram h.world h.commits
    → CommitsSerial sh p entries ram h.commits m → SeenSerial sh h.world m
