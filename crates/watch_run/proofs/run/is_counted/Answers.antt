-- Settings that are there are allowed.
use Rattle.std.proofs.Common.{subst}
use Rattle.tcc_base.specs.Settings.{IsAllowed}
use Rattle.watch_run.specs.Runs.{RunData}
use Rattle.watch_run.proofs.Runs.{run-counted}
use Rattle.watch_run.proofs.run.is_counted.Goals as goal

pub returns-clause-counted : goal.returns-clause-counted
returns-clause-counted c =
    let run : RunData = record {
      machine = c.args.system.now;
      counts = c.args.counts.now;
      seed = c.args.seed;
      drawn = c.args.drawn;
    } in
    run-counted run c.done.result (subst IsAllowed c.config.ensures c.settings_are_allowed.ensures) c.done.ensures
