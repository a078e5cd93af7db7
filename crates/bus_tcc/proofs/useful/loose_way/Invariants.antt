-- The ways so far are before the one that is sought.
use Rattle.std.proofs.Common.{◌≡◌, ◌+◌, length}
use Rattle.std.specs.Prelude.{filter, is_some}
use Rattle.rules_tcc.specs.CoreEvict.{core_evict}
use Rattle.rules_tcc.specs.Seen.{numbers}
use Rattle.core_node.specs.View.{core_of}
use Rattle.bus_tcc.proofs.useful.loose_way.Given as goal

abbrev pub invariant-loop-way : goal.invariant-loop-way
invariant-loop-way l =
    l.fn.k ≡ length (filter (λ y. is_some (core_evict l.fn.core.config l.fn.set y (core_of l.fn.core))) (numbers l.way)) + l.left
