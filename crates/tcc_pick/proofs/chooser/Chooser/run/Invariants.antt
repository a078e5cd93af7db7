-- What the words so far picked was taken and written down.
use Rattle.tcc_pick.proofs.Noted.{Noting}
use Rattle.tcc_pick.proofs.chooser.Chooser.run.Given as goal

abbrev pub invariant-loop : goal.invariant-loop
invariant-loop g l = Noting l.fn.system l.system l.fn.self l.self l.steps l.counter g.R.Recorder.line (g.R.Recorder.bytes l.fn.recorder)
    (g.R.Recorder.bytes l.recorder)
