-- What a run shows of what is committed: its commits, each core and the words that changed.
use Rattle.std.specs.Prelude.{ℕ, ◌/◌, ◌==◌, List, [], ◌∷◌, map, if◌then◌else◌}
use Rattle.tcc_base.specs.declared.access.Commit.{Commit as Noted}
use Rattle.rules_program.specs.Cores.{printed}
use Rattle.rules_program.specs.Plain.{PlainCore}
use Rattle.rules_maps.specs.Shape.{Shape}
use Rattle.rules_tcc.specs.Seen.{seen, numbers}
use Rattle.rules_tcc.specs.State.{CoreState}
use Rattle.rules_tcc.specs.Step.{History}
use Rattle.theorem_serial.specs.Commits.{end_after}

-- what is committed of a core: its checkpoint, whether and how it has halted, and what its commits printed
abbrev pub shown_core : (core : ℕ) → CoreState → List Noted → PlainCore
shown_core c s commits = record { local = s.saved; ended = end_after s.phase s.ended; console = printed c commits }

pub record Shown : Type 0 where
  pub commits : List Noted
  pub cores : List PlainCore
  pub words : List (ℕ × ℕ)  -- those that aren't as they were loaded, and what is seen there

unfoldable pub changed : (old new : ℕ → ℕ) → List ℕ → List (ℕ × ℕ)
changed old new [] = []
changed old new (w ∷ ws) = if old w == new w then changed old new ws else (w, new w) ∷ changed old new ws

unfoldable pub shown : Shape → (ram : ℕ → ℕ) → History → Shown
shown sh ram h = record {
  commits = h.commits;
  cores = map (λ c. shown_core c (h.world.cores c) h.commits) (numbers sh.cores);
  words = changed ram (seen sh h.world) (numbers (sh.ram / 4));
}
