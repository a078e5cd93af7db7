-- The count is of all that is in flight.
use Rattle.machine_links.specs.Flights.{flying}
use Rattle.machine_links.proofs.flights.InFlight.len.Goals as goal

pub returns : goal.returns
unfolding flying
returns c = rw (← c.self.view_is) c.self.invariant.flying
