-- The cores so far are in both or in none.
use Rattle.std.proofs.Common.{◌≡◌}
use Rattle.rules_maps.specs.Masks.{has}
use Rattle.rules_maps.specs.Words.{all_below}
use Rattle.bus_changes.specs.Changes.{same_flag}
use Rattle.bus_changes.proofs.arbiter.same_left.Given as goal

abbrev pub invariant-loop-core : goal.invariant-loop-core
invariant-loop-core l = l.same ≡ all_below (λ c. same_flag (has l.a.bits c) (has l.b.bits c)) l.core
