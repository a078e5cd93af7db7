-- Runs by phases: earlier phases commit before later ones.
use Rattle.std.specs.Prelude.{ℕ, Bool, List, [], ◌∷◌, ◌++◌, map, ◌≡◌, codes}
use Rattle.std.specs.Fmt.{decimal}
use Rattle.image_load.specs.Start.{Start}
use Rattle.theorem_phases.specs.Laws.{InPhases}
use Rattle.rules_riscv.specs.Starting.{at_start}
use Rattle.rules_phases.specs.Phased.{phased_picked}
use Rattle.rules_phases.specs.Phases.{phases_of}
use Rattle.report_text.specs.Lines.{newline}
use Rattle.tcc_base.specs.declared.access.Commit.{Commit}
use Rattle.tcc_cli.specs.Runs.{run_text}
use Rattle.tcc_cli.specs.Schedules.{Ran}
use Rattle.rules_maps.specs.Nodes as rules
use Rattle.tcc_msg.specs.Plain.{event_of}
use Rattle.tcc_msg.specs.declared.event.Event.{Event}
use Rattle.tcc_pick.specs.Words.{seeded, words}
use Rattle.rules_tcc.specs.Step.{History}

-- the schedule that a seed picks by phases: one event for each random word, or fewer where none is useful any more that isn't held back
abbrev pub phased_by : Start → (seed steps : ℕ) → List rules.Event
phased_by s seed steps = phased_picked s (words steps (seeded seed)) (at_start s)

abbrev pub IsPhasePicked : Start → (seed steps : ℕ) → List Event → Type 0
IsPhasePicked s seed steps es = map event_of es ≡ phased_by s seed steps

-- the line of a commit and its phase
unfoldable pub phase_line : Commit → (phase : ℕ) → List ℕ
phase_line c q =
    codes "commit " ++ decimal c.tid.0 ++ codes " " ++ decimal c.core.0 ++ codes " " ++ decimal c.n ++ codes " phase "
    ++ decimal q ++ newline

-- those of commits, one phase for each
unfoldable pub phase_lines : List Commit → (phases : List ℕ) → List ℕ
phase_lines (c ∷ cs) (q ∷ qs) = phase_line c q ++ phase_lines cs qs
phase_lines _ _ = []

-- the phases of all commits by rising TID, and a report behind them
abbrev pub phases_and : List Commit → (phases : List ℕ) → (report : List ℕ) → List ℕ
phases_and cs qs report = codes "tcc-phases 1" ++ newline ++ phase_lines cs qs ++ report

unfoldable pub phases_text : Start → (done : Bool) → (events : ℕ) → History → List ℕ
phases_text s done events h = phases_and h.commits (phases_of s h) (run_text s done events h)

-- A run by such a schedule, as `Ran`, with the phases of its commits in the text: along rising TIDs they never fall.
pub record RanInPhases (s : Start) (IsSchedule : List Event → Type 0) (done : Bool) (text : List ℕ) : Type 0 where
  pub ran : Ran s IsSchedule (phases_text s) done text
  pub phases : InPhases s ran.ends
