-- Where a run of the machine with one bus is done all cores have ended, and so what it shows is an outcome.
use Rattle.std.proofs.Common.{◌≡◌, true, Option, Some, None, IfSome, nat_lt, arith}
use Rattle.std.proofs.lemmas.Bool.Decides.{nat_tests}
use Rattle.rules_bus.specs.Step.{BusHistory, bus_run}
use Rattle.rules_bus.specs.Useful.{BusIsDone}
use Rattle.theorem_bus.proofs.Lemmas.{bus_runs_give_the_plain_machine}
use Rattle.theorem_bus.specs.Given.{BusSerial, bus_at_start, bus_committed}
use Rattle.image_load.specs.Contents.{started}
use Rattle.image_load.specs.Start.{Start, first_ram}
use Rattle.text_outcomes.specs.Laws.{HasOutcome}
use Rattle.text_outcomes.specs.Table.{table_of}
use Rattle.run_outcomes.specs.Outcomes.{HaveEnded}
use Rattle.rv_code.specs.Machine.{program}
use Rattle.rules_riscv.specs.Starting.{local_at_start}
use Rattle.outcomes_law.specs.Laws.{DoneBusRunsAreOutcomes, shown}
use Rattle.outcomes_law.proofs.BusHalts.{BusFit, bus-run-fits}
use Rattle.outcomes_law.proofs.Done.{core-ended}
use Rattle.outcomes_law.proofs.Reports.{bus-reports-are-outcomes}

done-ended : (s : Start) (h : BusHistory) → BusFit h.world → BusIsDone s.settings h.world → HaveEnded s.settings.cores (bus_committed s h)
unfolding bus_committed
done-ended s h all done core lt =
    let there : nat_lt core s.settings.cores ≡ true = grind (arith, nat_tests, lt) in
    rw there (core-ended (h.world.cores core).phase (h.world.cores core).ended (done.halted core lt) (all core))

pub done-bus-runs-are-outcomes : DoneBusRunsAreOutcomes
unfolding started
done-bus-runs-are-outcomes tell e r stuck es allowed every =
    go (bus_run s.settings (program s) (bus_at_start s).world es) (bus_runs_give_the_plain_machine s es allowed)
    (bus-run-fits s.settings (program s) (local_at_start s) (first_ram s) es)
  where
    s : Start
    s = started e.loaded

    go : (x : Option BusHistory) → IfSome x (BusSerial s) → IfSome x (λ h. BusFit h.world)
        → IfSome x (λ h. BusIsDone e.loaded.settings h.world
        → HasOutcome tell (table_of e r stuck) (shown s h.commits (bus_committed s h)))
    go None serial fit = tt
    go (Some h) serial fit = λ done. bus-reports-are-outcomes tell e r stuck h every serial (done-ended s h fit done)
