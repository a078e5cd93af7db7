use Rattle.theorem_bus.proofs.Going.Live.{bus_never_stuck}
use Rattle.theorem_bus.proofs.Going.Picked.{bus_picked_ends_done}
use Rattle.theorem_bus.proofs.bus_machines_are_never_stuck.Goals as goal

pub returns : goal.returns
returns c = record { done = bus_never_stuck; picked = bus_picked_ends_done }
