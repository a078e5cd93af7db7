-- A run's text stands for one run.
use Rattle.std.specs.Prelude.{ℕ, ◌≡◌}
use Rattle.image_load.specs.Contents.{Contents}
use Rattle.net_core.specs.Machine.{start_of}
use Rattle.checkpoint_text.specs.Laws.{IsLaidOut, IsSameState}
use Rattle.watch_run.specs.Runs.{IsRunOf, RunData}
use Rattle.checkpoint_run.specs.Runs.{run_text}

-- two runs from the same start have the same text
pub record HaveSameText (q r : RunData) : Type 0 where
  pub start : start_of q.machine ≡ start_of r.machine
  pub laid_out : IsLaidOut q.machine
  pub laid_out_too : IsLaidOut r.machine
  pub text : run_text q ≡ run_text r

-- the same was counted, by the same words, and the machines are in the same state
pub record IsSameRun (q r : RunData) : Type 0 where
  pub counts : q.counts ≡ r.counts
  pub seed : q.seed ≡ r.seed
  pub drawn : q.drawn ≡ r.drawn
  pub machine : IsSameState q.machine r.machine

-- Runs from one start that have the same text are the same.
abbrev pub TextsTellRunsApart : Type 0
TextsTellRunsApart = (q r : RunData) → HaveSameText q r → IsSameRun q r

-- What is read from a run's text is the run by as many steps of its seed as that was.
abbrev pub RunsGoOnFromTexts : Type 0
RunsGoOnFromTexts =
    (q r : RunData) → HaveSameText q r → (c : Contents) (steps : ℕ) → IsRunOf c steps q → IsRunOf r.machine.cores.code steps r
