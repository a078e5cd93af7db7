-- The messages in flight of the code, with what limits them.
use Rattle.machine_links.specs.Flights.{Flights, is_ready, net_of}
use Rattle.machine_parts.specs.Links.{Traffic}
use Rattle.machine_parts.specs.declared.links.Limits.{Limits}

abbrev pub traffic_of : Flights → Limits → Traffic
traffic_of f l = record { net = net_of f; ready = is_ready f; next = l.next.0; most = l.most }
