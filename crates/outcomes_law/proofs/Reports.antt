-- What reports show is told by tables that are done.
use Rattle.std.proofs.Common.{◌≡◌, ℕ, List, ◌++◌, IfSome, codes, append_assoc, sym, ◌∙◌, ap, subst, map}
use Rattle.std.specs.List.{flat_map}
use Rattle.image_load.specs.Contents.{started}
use Rattle.text_outcomes.specs.Laws.{HasOutcome}
use Rattle.text_outcomes.specs.Table.{table_of}
use Rattle.text_outcomes.specs.Told.{machine_shown, memory_text, told_text}
use Rattle.text_outcomes.proofs.Lemmas.{told-commits, tables-tell-every-end}
use Rattle.report_text.specs.Lines.{newline, end_line, events_line}
use Rattle.report_text.specs.Text.{body_text, bus_text, commit_text, cores_text, ended_text, report_text, serial_text}
use Rattle.run_outcomes.specs.Outcomes.{HaveEnded}
use Rattle.theorem_riscv.specs.Given.{IsSerial, committed}
use Rattle.theorem_bus.specs.Given.{BusSerial, bus_committed}
use Rattle.rules_program.specs.Orders.{order_of_commit}
use Rattle.outcomes_law.specs.Laws.{BusReportsAreOutcomes, ListsAreOutcomes, ReportsAreOutcomes, ReportsEndWithTheirState, shown}

pub lists-are-outcomes : ListsAreOutcomes
unfolding started
lists-are-outcomes tell e r stuck last orders m commits every is ended =
    let told = subst (λ x. IfSome x (λ y. HaveEnded e.loaded.settings.cores y.0
    → HasOutcome tell (table_of e r stuck) (machine_shown e.loaded y.0))) is
    (tables-tell-every-end tell e r stuck every last orders) ended in
    (told.0, told.1, told.2 ∙ sym (told-commits tell (shown (started e.loaded) commits m)))

pub reports-are-outcomes : ReportsAreOutcomes
unfolding IsSerial started
reports-are-outcomes tell e r stuck h every is ended =
    lists-are-outcomes tell e r stuck 0 (map order_of_commit h.commits) (committed (started e.loaded) h) h.commits every is ended

pub bus-reports-are-outcomes : BusReportsAreOutcomes
unfolding BusSerial started
bus-reports-are-outcomes tell e r stuck h every is ended =
    lists-are-outcomes tell e r stuck 0 (map order_of_commit h.commits) (bus_committed (started e.loaded) h) h.commits every is ended

-- the last two of a text's parts are taken together
joined : (front commits cores ram : List ℕ) → front ++ (commits ++ cores ++ ram) ≡ front ++ commits ++ (cores ++ ram)
joined front commits cores ram =
    ap (λ xs. front ++ xs) (append_assoc commits cores ram) ∙ sym (append_assoc front commits (cores ++ ram))

pub reports-end-with-their-state : ReportsEndWithTheirState
unfolding report_text bus_text serial_text ended_text body_text told_text
reports-end-with-their-state done events s =
    let commits = flat_map commit_text s.commits in
    let cores = cores_text 0 s.cores in
    let ram = memory_text s in
    let ends : (first : List ℕ) → first ++ (end_line done ++ events_line events ++ (commits ++ cores ++ ram))
    ≡ first ++ end_line done ++ events_line events ++ commits ++ (cores ++ ram)
    = λ first. sym (append_assoc first (end_line done ++ events_line events) (commits ++ cores ++ ram))
    ∙ ap (λ xs. xs ++ (commits ++ cores ++ ram)) (sym (append_assoc first (end_line done) (events_line events)))
    ∙ joined (first ++ end_line done ++ events_line events) commits cores ram in
    record {
      run = ends (codes "tcc-report 1" ++ newline);
      bus = ends (codes "tcc-bus 1" ++ newline);
      list = joined (codes "tcc-serial 1" ++ newline) commits cores ram;
    }
