-- The run of the file's schedule, and why messages wait at its end.
use Rattle.net_core.specs.Machine.{history_of}
use Rattle.tcc_cli.proofs.running.run_and_tell.Goals as goal

pub returns-in-Ok-waits_of-clause-ran : goal.returns-in-Ok-waits_of-clause-ran
returns-in-Ok-waits_of-clause-ran c = record {
  events = c.in-Ok.refined.taken;
  ends = history_of c.in-Ok.refined.machine;
  schedule = c.in-Ok.ensures.schedule;
  runs = c.in-Ok-waits_of.ensures.runs;
  text_is = c.in-Ok-waits_of.ensures.text;
}
