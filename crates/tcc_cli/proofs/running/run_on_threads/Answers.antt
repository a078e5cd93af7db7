-- What was run, its record and its report.
use Rattle.std.proofs.Common.{subst}
use Rattle.net_core.specs.Machine.{history_of}
use Rattle.tcc_cli.specs.Schedules.{IsRecorded}
use Rattle.tcc_cli.proofs.running.run_on_threads.Goals as goal

pub returns-in-Ok-report_of-clause-ran : goal.returns-in-Ok-report_of-clause-ran
returns-in-Ok-report_of-clause-ran g c = record {
  events = c.in-Ok.refined.taken;
  ends = history_of c.in-Ok.refined.machine;
  schedule = (
    c.in-Ok.ensures.joined,
    subst (λ k. IsRecorded c.args.keep.now (g.F.Store.disk c.args.files.now).tells (g.F.Store.disk c.record.new.files).contents
        (record { config = k.settings; events = c.in-Ok.refined.taken })) c.in-Ok.ensures.code c.in-Ok-record.ensures.recorded,
  );
  runs = c.in-Ok-report_of.ensures.runs;
  text_is = c.in-Ok-report_of.ensures.text;
}
