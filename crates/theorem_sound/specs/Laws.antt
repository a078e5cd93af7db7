-- What is claimed of the RISC-V programs that the machine runs: their machines are sound at the start and after each event, and what an
-- event commits has a TID that no commit had.
use Rattle.std.specs.Prelude.{ℕ, ◌+◌, ◌≡◌, ◌≤◌, List, IfSome}
use Rattle.image_load.specs.Start.{Start}
use Rattle.rv_code.specs.Machine.{program}
use Rattle.tcc_base.specs.Settings.{IsAllowed}
use Rattle.tcc_base.specs.declared.access.Commit.{Commit as Noted}
use Rattle.rules_program.specs.Program.{Program}
use Rattle.rules_maps.specs.Nodes.{Event}
use Rattle.rules_maps.specs.Shape.{Shape}
use Rattle.rules_riscv.specs.Starting.{at_start}
use Rattle.rules_tcc.specs.State.{World}
use Rattle.rules_tcc.specs.Step.{History, next_history, step}
use Rattle.theorem_serial.specs.Owners.{times}
use Rattle.theorem_sound.specs.Sound.{Sound}

abbrev pub SoundAtStart : Type 0
SoundAtStart = (s : Start) → IsAllowed s.settings → Sound s.settings 0 (at_start s)

abbrev pub SoundAfterEvent : Type 0
SoundAfterEvent = (s : Start) (events : ℕ) (h : History) (e : Event) → IsAllowed s.settings → Sound s.settings events h
    → IfSome (next_history s.settings (program s) h e) (Sound s.settings (events + 1))

-- whatever program runs
abbrev pub CommitsAnew : Type 0
CommitsAnew = (sh : Shape) (p : Program) (events : ℕ) (h : History) (e : Event) → Sound sh events h
    → IfSome (step sh p h.world e) (λ o. IfSome o.noted (λ x. times x.tid.0 h.commits ≡ 0))

-- the commits that are kept may be fewer
abbrev pub SoundWithFewer : Type 0
SoundWithFewer = (sh : Shape) (events : ℕ) (w : World) (cs ds : List Noted) → ((t : ℕ) → times t ds ≤ times t cs)
    → Sound sh events (record { world = w; commits = cs }) → Sound sh events (record { world = w; commits = ds })
