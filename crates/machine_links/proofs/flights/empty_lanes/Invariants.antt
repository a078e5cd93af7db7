-- As many lanes as were passed.
use Rattle.std.proofs.Common.{◌≡◌, [], replicate}
use Rattle.machine_links.proofs.flights.empty_lanes.Given as goal

abbrev pub invariant-loop : goal.invariant-loop
invariant-loop l = l.lanes.items ≡ replicate l.counter []
