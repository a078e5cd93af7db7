-- The messages so far may stand there.
use Rattle.rules_maps.specs.Bridge.{node_of}
use Rattle.machine_links.specs.Flights.{net_of}
use Rattle.machine_parts.specs.Links.{IsGoodMessage}
use Rattle.machine_parts.specs.Traffic.{traffic_of}
use Rattle.machine_parts.proofs.Flying.{FirstAre}
use Rattle.machine_parts.proofs.links.has_good_messages.Given as goal

abbrev pub invariant-loop-i : goal.invariant-loop-i
invariant-loop-i l =
    FirstAre (net_of l.fn.flights) (node_of l.fn.src) (node_of l.fn.dst) l.i
    (IsGoodMessage l.fn.config (traffic_of l.fn.flights l.fn.limits) (node_of l.fn.src) (node_of l.fn.dst))
