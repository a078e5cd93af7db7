-- The messages so far.
use Rattle.std.proofs.Common.{take}
use Rattle.rules_maps.specs.Nodes.{Core, Vendor}
use Rattle.machine_links.specs.Flights.{net_of}
use Rattle.theorem_serial.specs.Count.{Grants}
use Rattle.machine_parts.specs.Tids.{AreNoted}
use Rattle.machine_parts.proofs.Flying.{waiting_on}
use Rattle.machine_parts.proofs.Granted.{counted}
use Rattle.machine_parts.proofs.tids.note_grants.Given as goal

abbrev pub invariant-loop-i : goal.invariant-loop-i
invariant-loop-i l =
    AreNoted l.initial.held.items l.held.items l.fn.commits l.fn.next.0
    (λ t. counted (Grants t) (net_of l.fn.flights Vendor (Core l.fn.core.0))
    (take l.i (waiting_on (net_of l.fn.flights) Vendor (Core l.fn.core.0))))
