-- What follows from the list for a core's attempt: it is what the plain machine does over the values that the core sees, or doomed.
use Rattle.std.specs.Prelude.{ℕ, ◌≡◌, ◌<◌, ◌≤◌, ◌⊎◌, List, Option, Some, IsSomeAnd}
use Rattle.tcc_base.specs.declared.access.Commit.{Commit as Noted}
use Rattle.rules_program.specs.Plain.{Plain, begun, steps}
use Rattle.rules_program.specs.Program.{Local, Program}
use Rattle.rules_maps.specs.Words.{line_of}
use Rattle.rules_maps.specs.Shape.{Shape, home}
use Rattle.rules_tcc.specs.State.{Halted, World}
use Rattle.rules_tcc.specs.Step.{History}
use Rattle.theorem_attempt.specs.Follows.{Uses, IsSmall, Reaches}
use Rattle.theorem_serial.specs.Invariants.{Invariants}
use Rattle.theorem_serial.specs.Owners.{Grant}
use Rattle.theorem_serial.specs.Pairs.{pair}
use Rattle.theorem_serial.specs.Standing.{IsBound}
use Rattle.theorem_serial.specs.Ways.{Ways}
use Rattle.theorem_serial.specs.Values.{value_at, IsDoomed}

-- the memory as a core sees it at its bound
unfoldable pub values_for : Shape → (ram : ℕ → ℕ) → World → List Noted → (core : ℕ) → (bound : Option ℕ) → ℕ → ℕ
values_for sh ram w cs c b x = value_at sh.base ram cs (w.dirs (home sh (line_of x))) (Some c) b x

-- a word that the core used dooms its attempt
pub record Doomed (sh : Shape) (w : World) (c : ℕ) (b : Option ℕ) : Type 0 where
  pub word : ℕ
  pub doomed : IsDoomed b word (pair w c (home sh (line_of word)))

abbrev pub SoundOrDoomed : Shape → Program → (ram : ℕ → ℕ) → World → List Noted → (core : ℕ) → (bound : Option ℕ) → Type 0
SoundOrDoomed sh p ram w cs c b =
    IsSomeAnd (steps sh.base p (w.cores c).n (begun (w.cores c).saved (values_for sh ram w cs c b)))
    (Reaches (w.cores c) (values_for sh ram w cs c b))
    ⊎ Doomed sh w c b

-- In each state that has the invariants of the list every attempt is sound or doomed; these values fit 32 bits.
abbrev pub AttemptsSound : Type 0
AttemptsSound =
    (sh : Shape) (p : Program) (entries : ℕ → Local) (ram : ℕ → ℕ) (gs : List Grant) (ys : Ways) (views : ℕ → Uses) (m : Plain)
    (h : History) → Invariants sh p entries ram gs ys views m h
    → (c : ℕ) (b : Option ℕ) → c < sh.cores → 1 ≤ sh.dirs → IsBound b (pair h.world c 0) → ((h.world.cores c).phase ≡ Halted → ⊥)
    → IsSmall (values_for sh ram h.world h.commits c b)
    → SoundOrDoomed sh p ram h.world h.commits c b
