use Rattle.std.proofs.Common.{◌≡◌, ◌≤◌, length}
use Rattle.tcc_base.specs.declared.access.Commit.{Commit}
use Rattle.machine_commits.proofs.Places.{StandsAmong}
use Rattle.machine_commits.proofs.list.place_for.Given as goal

abbrev pub invariant-loop-at : goal.invariant-loop-at
invariant-loop-at l = record {
  within : l.at ≤ length l.commits;
  among : (c : Commit) → c.tid.0 ≡ l.tid.0 → StandsAmong l.at c l.commits;
}

abbrev pub decreases-loop-at : goal.decreases-loop-at
decreases-loop-at l = l.at
