-- So many events were taken.
use Rattle.tcc_phase.proofs.Runs.{RanSo}
use Rattle.tcc_phase.proofs.system.PhaseSystem.run.Given as goal

abbrev pub invariant-loop-i : goal.invariant-loop-i
invariant-loop-i l = RanSo l.fn.self.refined.machine l.self.refined.machine l.i l.events
