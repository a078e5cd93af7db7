-- None from here on is smaller.
use Rattle.std.proofs.Common.{◌≤◌, length}
use Rattle.theorem_phases.specs.Laws.{place_of}
use Rattle.tcc_phase.proofs.standing.place_of.Given as goal

abbrev pub invariant-loop-at : goal.invariant-loop-at
invariant-loop-at l = (l.at ≤ length l.commits) × (place_of l.tid.0 l.commits ≤ l.at)

abbrev pub decreases-loop-at : goal.decreases-loop-at
decreases-loop-at l = l.at
