-- The links from the cores before this one are empty.
use Rattle.std.proofs.Common.{◌≡◌, ◌<◌, ◌≤◌, ℕ, None}
use Rattle.rules_maps.specs.Nodes.{Core, Dir}
use Rattle.rules_tcc.specs.Links.{in_flight}
use Rattle.machine_links.specs.Flights.{net_of}
use Rattle.machine_dirs.proofs.marking.next_busy.Given as goal

abbrev pub invariant-loop-core : goal.invariant-loop-core
invariant-loop-core l =
    (c k : ℕ) → l.from ≤ c → c < l.core → in_flight (net_of l.flights) (Core c) (Dir l.fn.dst.0) k ≡ None
