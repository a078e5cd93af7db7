-- The schedule's text stands under the name.
use Rattle.std.proofs.Common.{◌∙◌, IfErr, Some, None, ap, sym, subst, if◌then◌else◌}
use Rattle.std.proofs.lemmas.Result.{on_ok_weaker}
use Rattle.net_core.specs.Machine.{settings_of}
use Rattle.tcc_cli.specs.Around.{FilesAround}
use Rattle.tcc_cli.specs.Failing.{IsNotWritten}
use Rattle.tcc_cli.specs.Schedules.{IsRecorded}
use Rattle.tcc_msg.specs.declared.event.Schedule.{Schedule}
use Rattle.tcc_cli.proofs.records.record.Goals as goal

pub returns-clause-recorded : goal.returns-clause-recorded
returns-clause-recorded g c =
    let tells = (g.F.Store.disk c.args.files.now).tells in
    let after = (g.F.Store.disk c.write_record.new.files).contents in
    let s : Schedule = record { config = settings_of c.args.refined.now.machine; events = c.args.refined.now.taken } in
    on_ok_weaker c.write_record.result
    (λ stored. subst (λ k. IsRecorded k tells after s) (sym c.in-Some.is) (
      c.schedule_text.ensures.formed,
      stored ∙ ap (λ b. if tells then Some b else None) (c.deref.ensures.value ∙ c.in-Ok.ensures.text),
    ))
    c.write_record.ensures.stored

pub returns-clause-failed : goal.returns-clause-failed
returns-clause-failed g c =
    let f : FilesAround = record { before = g.F.Store.disk c.args.files.now; after = g.F.Store.disk c.write_record.new.files } in
    subst (λ k. IfErr c.write_record.result (IsNotWritten k f)) (sym c.in-Some.is) c.write_record.ensures.failed
