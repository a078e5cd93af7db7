-- Nothing was taken, counted and drawn.
use Rattle.std.proofs.Common.{◌∙◌, ap, subst, sym}
use Rattle.watch_count.specs.Counts.{nothing_counted}
use Rattle.watch_run.specs.Runs.{IsRunOf}
use Rattle.watch_run.proofs.Leading.{StartsAt}
use Rattle.watch_run.proofs.Runs.{run-none}
use Rattle.watch_run.proofs.Tallies.{counted-none}
use Rattle.watch_run.proofs.run.Run.start.Goals as goal

pub returns-in-Ok-clause-run : goal.returns-in-Ok-clause-run
returns-in-Ok-clause-run c =
    let m = c.in-Ok.system in
    let is = c.in-Ok.ensures in
    let starts : StartsAt c.args.loaded.now m = record { code = is.code; first = is.start } in
    subst (IsRunOf c.args.loaded.now 0) (sym c.restored.ensures)
    (run-none c.args.loaded.now m c.in_ok-counts.counts c.args.seed
    (counted-none c.args.loaded.now m c.in_ok-counts.counts starts is.events is.settled
    (c.in_ok-counts.ensures ∙ ap (λ s. nothing_counted s.cores) c.config.ensures)))
