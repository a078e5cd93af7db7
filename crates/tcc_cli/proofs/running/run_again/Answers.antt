-- The run of the file's schedule, and its report.
use Rattle.net_core.specs.Machine.{history_of}
use Rattle.tcc_cli.proofs.running.run_again.Goals as goal

pub returns-in-Ok-report_of-clause-ran : goal.returns-in-Ok-report_of-clause-ran
returns-in-Ok-report_of-clause-ran c = record {
  events = c.in-Ok.refined.taken;
  ends = history_of c.in-Ok.refined.machine;
  schedule = c.in-Ok.ensures.schedule;
  runs = c.in-Ok-report_of.ensures.runs;
  text_is = c.in-Ok-report_of.ensures.text;
}
