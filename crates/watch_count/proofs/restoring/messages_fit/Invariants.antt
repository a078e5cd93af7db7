-- All kinds fit where those that are left do.
use Rattle.std.proofs.Common.{◌≤◌, drop}
use Rattle.watch_count.specs.Sizes.{messages_size}
use Rattle.watch_count.proofs.Testing.{Left}
use Rattle.watch_count.proofs.restoring.messages_fit.Given as goal

abbrev pub invariant-loop-counts : goal.invariant-loop-counts
invariant-loop-counts l = Left (λ x. messages_size x ≤ l.bound) (drop l.counts-index l.messages) l.messages
