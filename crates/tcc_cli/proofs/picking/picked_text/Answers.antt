-- The text is that of the events that the machine took.
use Rattle.std.proofs.Common.{◌∙◌, subst, sym}
use Rattle.image_load.specs.Contents.{started}
use Rattle.tcc_base.specs.Settings.{IsAllowed}
use Rattle.tcc_cli.proofs.PickedRuns.{has-text, written-so}
use Rattle.tcc_cli.proofs.picking.picked_text.Goals as goal

pub returns-in-Ok-push_end-clause-taken : goal.returns-in-Ok-push_end-clause-taken
unfolding started
returns-in-Ok-push_end-clause-taken c =
    let l = c.args.loaded.now in
    let t = c.in_ok-take_picked.ensures.taken in
    let allowed = subst IsAllowed c.config.ensures c.settings_are_allowed.ensures in
    record {
      taken = t.taken;
      schedule = (
        t.schedule.0,
        record {
          formed = has-text c.what_was_taken_has_a_text.ensures c.a_picked_schedule_is_a_run.ensures.ends l c.take_picked.new.system
              t.taken c.args.seed c.args.steps allowed c.in_ok-take_picked.ensures.code c.requires.few t.schedule.0 t.is_run t.count;
          text = written-so c.config-2.result.now l.settings t.taken _ _ _ c.events.result c.config-2.ensures c.in-Ok.ensures
              t.schedule.1 (c.events.ensures.count ∙ sym t.count) c.in-Ok-push_end.ensures;
        },
      );
      is_run = t.is_run;
      count = t.count;
    }
