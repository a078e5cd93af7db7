-- The ways so far are counted.
use Rattle.std.proofs.Common.{◌≡◌, length}
use Rattle.std.specs.Prelude.{filter, is_some}
use Rattle.rules_tcc.specs.CoreEvict.{core_evict}
use Rattle.rules_tcc.specs.Seen.{numbers}
use Rattle.core_node.specs.View.{core_of}
use Rattle.bus_tcc.proofs.useful.loose_count.Given as goal

abbrev pub invariant-loop-way : goal.invariant-loop-way
invariant-loop-way l =
    l.count ≡ length (filter (λ y. is_some (core_evict l.fn.core.config l.fn.set y (core_of l.fn.core))) (numbers l.way))
