-- What the chooser's words pick from the start on was taken.
use Rattle.std.proofs.lemmas.Result.{on_ok_weaker}
use Rattle.tcc_cli.proofs.PickedRuns.{has-picked}
use Rattle.tcc_cli.proofs.picking.take_picked.Goals as goal

pub returns-clause-taken : goal.returns-clause-taken
returns-clause-taken g c =
    on_ok_weaker c.run.result
    (λ took. has-picked c.args.loaded.now c.args.system.now c.run.new.system c.new.result c.args.seed c.args.steps g.R.Recorder.line
    (g.R.Recorder.bytes c.args.recorder.now) (g.R.Recorder.bytes c.run.new.recorder) c.requires.code c.requires.start c.requires.events
    c.new.ensures took)
    c.run.ensures.took
