-- The events that led there are the machine's list.
use Rattle.image_load.specs.Contents.{started}
use Rattle.std.specs.String.{string_bytes}
use Rattle.tcc_cli.specs.Runs.{run_text}
use Rattle.tcc_cli.proofs.Machines.{has-list, runs-here, text-here}
use Rattle.tcc_cli.proofs.reports.report_of.Goals as goal

pub returns-clause-runs : goal.returns-clause-runs
returns-clause-runs c =
    runs-here (started c.args.loaded.now) c.args.refined.now c.system.result.now (λ f. f.done) c.machine_report.result
    c.system.ensures.machine (has-list c.args.refined.now c.args.loaded.now c.taken.ensures.refined c.requires.code)
    c.machine_report.ensures.runs

pub returns-clause-text : goal.returns-clause-text
returns-clause-text c =
    text-here (started c.args.loaded.now) (run_text (started c.args.loaded.now)) c.args.refined.now c.system.result.now (λ f. f.done)
    (λ f. string_bytes f.text) c.machine_report.result c.system.ensures.machine c.taken.ensures.refined.count
    c.machine_report.ensures.text
