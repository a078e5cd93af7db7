use Rattle.std.proofs.Common.{◌<◌, length}
use Rattle.run_outcomes.specs.Ways.{LeadFrom}
use Rattle.run_outcomes.proofs.exploration.steps_back.Given as goal

abbrev pub invariant-loop-at : goal.invariant-loop-at
invariant-loop-at l = LeadFrom l.ways l.at l.number l.back × (l.at < length l.ways)

abbrev pub decreases-loop-at : goal.decreases-loop-at
decreases-loop-at l = l.at
