-- What was picked, and its summary.
use Rattle.image_load.specs.Contents.{started}
use Rattle.std.specs.String.{string_bytes}
use Rattle.tcc_cli.proofs.Machines.{ran-here}
use Rattle.tcc_cli.specs.Runs.{summary_text}
use Rattle.tcc_cli.specs.Schedules.{IsPicked}
use Rattle.tcc_cli.proofs.running.run_trial.Goals as goal

pub returns : goal.returns
returns c =
    let s = started c.args.loaded.now in
    ran-here s (IsPicked s c.args.seed c.args.steps) (summary_text s c.args.work c.args.number) c.in_ok-system.system (λ f. f.done)
    (λ f. string_bytes f.text) c.summary_of.result c.in_ok-system.ensures.taken c.summary_of.ensures.runs c.summary_of.ensures.text
