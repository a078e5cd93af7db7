-- None of those that were looked at has the TID.
use Rattle.std.proofs.Common.{◌≡◌, ◌≤◌, length, drop, None}
use Rattle.watch.specs.Messages.{commit_of}
use Rattle.watch_core.proofs.commits.commit_of.Given as goal

abbrev pub invariant-loop-left : goal.invariant-loop-left
invariant-loop-left l = (l.left ≤ length l.commits) × (commit_of l.tid.0 (drop l.left l.commits) ≡ None)

abbrev pub decreases-loop-left : goal.decreases-loop-left
decreases-loop-left l = l.left
