-- Where a run is done all cores have ended, and so what it shows is an outcome.
use Rattle.std.proofs.Common.{◌≡◌, ◌<◌, ℕ, true, Option, Some, None, IfSome, List, nat_lt, subst, arith}
use Rattle.std.proofs.lemmas.Bool.Decides.{nat_tests}
use Rattle.image_load.specs.Contents.{started}
use Rattle.image_load.specs.Start.{Start, first_ram}
use Rattle.text_outcomes.specs.Laws.{HasOutcome}
use Rattle.text_outcomes.specs.Table.{table_of}
use Rattle.run_outcomes.specs.Outcomes.{HaveEnded}
use Rattle.rv_code.specs.Machine.{program}
use Rattle.theorem_riscv.proofs.Lemmas.{runs_give_the_plain_machine}
use Rattle.theorem_riscv.specs.Given.{IsSerial, committed}
use Rattle.rules_riscv.specs.Starting.{AfterRun, local_at_start, world_at_start}
use Rattle.tcc_base.specs.declared.access.CoreEnd.TheVariants.{Run}
use Rattle.rules_maps.specs.Nodes.{Event}
use Rattle.rules_program.specs.Plain.{Outcome, Goes, Ended, Halted as HaltedWith, Trapped as TrappedWith}
use Rattle.rules_tcc.specs.Seen.{IsDone}
use Rattle.rules_tcc.specs.State.{Phase, Halted}
use Rattle.rules_tcc.specs.Step.{History, run}
use Rattle.theorem_serial.specs.Commits.{end_after}
use Rattle.outcomes_law.specs.Laws.{DoneRunsAreOutcomes, shown}
use Rattle.outcomes_law.proofs.Halts.{AllFit, fits, is_end, run-fits}
use Rattle.outcomes_law.proofs.Reports.{reports-are-outcomes}

halted-ended : (o : Outcome) → is_end o ≡ true → end_after Halted o ≡ Run → ⊥
halted-ended Goes f r = absurd cc
halted-ended Ended f r = absurd cc
halted-ended (HaltedWith code) f r = absurd cc
halted-ended (TrappedWith code) f r = absurd cc

pub core-ended : (q : Phase) (o : Outcome) → q ≡ Halted → fits q o ≡ true → end_after q o ≡ Run → ⊥
core-ended q o e f r =
    halted-ended o (subst (λ p. fits p o ≡ true) e f) (subst (λ p. end_after p o ≡ Run) e r)

-- a core that has halted has ended
abbrev pub HaltsEnd : Start → History → Type 0
HaltsEnd s h = (core : ℕ) → core < s.settings.cores → (h.world.cores core).phase ≡ Halted
    → ((committed s h).cores core).ended ≡ Run → ⊥

halts-end : (s : Start) (h : History) → AllFit h.world → HaltsEnd s h
unfolding committed
halts-end s h all core lt halted =
    let there : nat_lt core s.settings.cores ≡ true = grind (arith, nat_tests, lt) in
    rw there (core-ended (h.world.cores core).phase (h.world.cores core).ended halted (all core))

-- so after every run
pub halted-cores-have-ended : (s : Start) (es : List Event) → AfterRun s es (HaltsEnd s)
halted-cores-have-ended s es =
    go (run s.settings (program s) (world_at_start s) es) (run-fits s.settings (program s) (local_at_start s) (first_ram s) es)
  where
    go : (x : Option History) → IfSome x (λ h. AllFit h.world) → IfSome x (HaltsEnd s)
    go None fit = tt
    go (Some h) fit = halts-end s h fit

pub done-runs-have-ended : (s : Start) (es : List Event)
    → AfterRun s es (λ h. IsDone s.settings h.world → HaveEnded s.settings.cores (committed s h))
done-runs-have-ended s es = go (run s.settings (program s) (world_at_start s) es) (halted-cores-have-ended s es)
  where
    go : (x : Option History) → IfSome x (HaltsEnd s)
        → IfSome x (λ h. IsDone s.settings h.world → HaveEnded s.settings.cores (committed s h))
    go None ends = tt
    go (Some h) ends = λ done core lt. ends core lt (done.halted core lt)

pub done-runs-are-outcomes : DoneRunsAreOutcomes
unfolding started
done-runs-are-outcomes tell e r stuck es allowed every =
    go (run s.settings (program s) (world_at_start s) es) (runs_give_the_plain_machine s es allowed) (done-runs-have-ended s es)
  where
    s : Start
    s = started e.loaded

    go : (x : Option History) → IfSome x (IsSerial s)
        → IfSome x (λ h. IsDone e.loaded.settings h.world → HaveEnded e.loaded.settings.cores (committed s h))
        → IfSome x (λ h. IsDone e.loaded.settings h.world → HasOutcome tell (table_of e r stuck) (shown s h.commits (committed s h)))
    go None serial ended = tt
    go (Some h) serial ended = λ done. reports-are-outcomes tell e r stuck h every serial (ended done)
