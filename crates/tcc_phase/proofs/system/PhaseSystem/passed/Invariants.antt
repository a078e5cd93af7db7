-- Those below the one number stand before, those from the other on don't.
use Rattle.std.proofs.Common.{◌+◌, ◌-◌, ◌≤◌}
use Rattle.tcc_phase.specs.Choosing.{held_in, passed_by}
use Rattle.tcc_phase.proofs.system.PhaseSystem.passed.Given as goal

abbrev pub invariant-loop-low : goal.invariant-loop-low
invariant-loop-low l =
    (l.low ≤ l.high) × (l.high ≤ held_in l.self.refined.machine) × (l.low ≤ passed_by l.self.refined.machine (l.k + l.low))
    × (passed_by l.self.refined.machine (l.k + l.high + 1) ≤ l.high)

abbrev pub decreases-loop-low : goal.decreases-loop-low
decreases-loop-low l = l.high - l.low
