-- The events so far are the first of them.
use Rattle.std.proofs.Common.{◌≡◌, map, take}
use Rattle.bus_tcc.specs.Chosen.{bus_useful_of}
use Rattle.bus_tcc.specs.Machine.{bus_event_of}
use Rattle.bus_tcc.proofs.system.BusSystem.useful.Given as goal

abbrev pub invariant-loop-k : goal.invariant-loop-k
invariant-loop-k l = map bus_event_of l.events ≡ take l.k (bus_useful_of l.self)
