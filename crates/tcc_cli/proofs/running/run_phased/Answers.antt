-- What was run by phases, its record, its phases and its report.
use Rattle.std.proofs.Common.{subst}
use Rattle.net_core.specs.Machine.{history_of, settings_of}
use Rattle.tcc_refine.specs.Refined.{Refined}
use Rattle.tcc_cli.specs.Schedules.{IsRecorded}
use Rattle.tcc_cli.proofs.running.run_phased.Goals as goal

pub returns-in-Ok-phases_of-clause-ran : goal.returns-in-Ok-phases_of-clause-ran
returns-in-Ok-phases_of-clause-ran g c = record {
  ran = record {
    events = c.in-Ok.system.refined.taken;
    ends = history_of c.in-Ok.system.refined.machine;
    schedule = (
      c.in-Ok.ensures.picked,
      subst (λ k. IsRecorded c.args.keep.now (g.F.Store.disk c.args.files.now).tells (g.F.Store.disk c.record.new.files).contents
          (record { config = k.settings; events = c.in-Ok.system.refined.taken })) c.in-Ok.ensures.code
          (subst (λ (r : Refined). IsRecorded c.args.keep.now (g.F.Store.disk c.args.files.now).tells
          (g.F.Store.disk c.record.new.files).contents
          (record { config = settings_of r.machine; events = r.taken })) c.inner.ensures.inner c.in-Ok-record.ensures.recorded),
    );
    runs = c.in-Ok-phases_of.ensures.runs;
    text_is = c.in-Ok-phases_of.ensures.text;
  };
  phases = c.phases_of.ensures.phases;
}
