-- None of the events so far will do.
use Rattle.theorem_live.specs.Progress.{spares}
use Rattle.live_core.specs.Chosen.{useful_events}
use Rattle.live_core.proofs.Filtered.{NonePass}
use Rattle.live_core.proofs.finding.find_for.Given as goal

abbrev pub invariant-loop-k : goal.invariant-loop-k
invariant-loop-k l = NonePass (spares l.core.0) l.k (useful_events l.system)
