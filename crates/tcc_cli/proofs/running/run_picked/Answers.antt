-- What was run, its record and its report.
use Rattle.std.proofs.Common.{◌∙◌, ap, map, sym}
use Rattle.image_load.specs.Contents.{started}
use Rattle.net_core.specs.Machine.{history_of}
use Rattle.tcc_cli.specs.Runs.{run_text}
use Rattle.tcc_msg.specs.Plain.{event_of}
use Rattle.tcc_cli.proofs.running.run_picked.Goals as goal

pub returns-in-Ok-machine_report-clause-ran : goal.returns-in-Ok-machine_report-clause-ran
returns-in-Ok-machine_report-clause-ran g c =
    let t = c.in-Ok-take_and_record.ensures.taken in
    let h = history_of c.take_and_record.new.system in
    record {
      events = t.taken;
      ends = h;
      schedule = t.schedule;
      runs = c.in-Ok-machine_report.ensures.runs (map event_of t.taken) t.is_run;
      text_is = c.in-Ok-machine_report.ensures.text
          ∙ ap (λ n. run_text (started c.args.loaded.now) c.in-Ok-machine_report.finished.done n h) (sym t.count);
    }
