-- So many events were taken.
use Rattle.net_core.proofs.Events.Runs.{RanSo}
use Rattle.net_core.proofs.system.System.run.Given as goal

abbrev pub invariant-loop-i : goal.invariant-loop-i
invariant-loop-i l = RanSo l.fn.self l.self l.i l.events
