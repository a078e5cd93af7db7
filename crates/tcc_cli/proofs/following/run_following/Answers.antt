-- What was run, its record and its report.
use Rattle.std.proofs.Common.{List, subst}
use Rattle.image_load.specs.Contents.{started}
use Rattle.net_core.specs.Machine.{history_of}
use Rattle.tcc_base.specs.Settings.{IsAllowed}
use Rattle.tcc_cli.proofs.Followed.{followed-ran}
use Rattle.tcc_cli.specs.Schedules.{IsRecorded}
use Rattle.tcc_msg.specs.declared.event.Event.{Event}
use Rattle.tcc_cli.proofs.following.run_following.Goals as goal

pub returns-in-Ok-report_of-clause-ran : goal.returns-in-Ok-report_of-clause-ran
unfolding started
returns-in-Ok-report_of-clause-ran g c =
    let settings = c.args.loaded.now.settings in
    let told = (g.F.Store.disk c.args.files.now).tells in
    let contents = (g.F.Store.disk c.record.new.files).contents in
    followed-ran c.the_commits_are_the_lists.ensures.keeps c.the_commits_are_the_lists.ensures.ends
    (started c.args.loaded.now) c.args.bytes.now
    (λ (es : List Event). IsRecorded c.args.keep.now told contents (record { config = settings; events = es }))
    c.in-Ok.refined.taken (history_of c.in-Ok.refined.machine) _ _
    (subst IsAllowed c.config.ensures c.settings_are_allowed.ensures)
    c.in-Ok.ensures.followed
    (subst (λ k. IsRecorded c.args.keep.now told contents (record { config = k.settings; events = c.in-Ok.refined.taken }))
    c.in-Ok.ensures.code c.in-Ok-record.ensures.recorded)
    c.in-Ok-report_of.ensures.runs c.in-Ok-report_of.ensures.text
