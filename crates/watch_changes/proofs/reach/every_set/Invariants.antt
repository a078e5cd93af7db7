-- The sets so far are there.
use Rattle.std.proofs.Common.{◌≡◌, true}
use Rattle.rules_maps.specs.Words.{those}
use Rattle.watch_changes.proofs.reach.every_set.Given as goal

abbrev pub invariant-loop-set : goal.invariant-loop-set
invariant-loop-set l = l.sets ≡ those (λ x. true) l.set
