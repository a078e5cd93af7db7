-- The cores so far.
use Rattle.std.proofs.Common.{[]}
use Rattle.rules_maps.specs.Nodes.{Core, Vendor}
use Rattle.rules_tcc.specs.DirDeliver.{sum_below}
use Rattle.machine_cores.specs.Bank.{cores_of}
use Rattle.machine_links.specs.Flights.{net_of}
use Rattle.machine_parts.specs.Tids.{AreNoted, held_by}
use Rattle.machine_parts.proofs.tids.are_single.Given as goal

abbrev pub invariant-loop-c : goal.invariant-loop-c
invariant-loop-c l =
    AreNoted [] l.held.items l.commits l.fn.next.0
    (λ t. sum_below (λ c. held_by (cores_of l.fn.cores c) (net_of l.fn.flights Vendor (Core c)) t) l.c)
