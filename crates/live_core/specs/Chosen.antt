-- The first of the useful events, of all and of those for which no other core gets a place in the order.
use Rattle.std.specs.Prelude.{ℕ, List, Option, filter, slice_get}
use Rattle.theorem_live.specs.Progress.{spares}
use Rattle.rules_maps.specs.Nodes.{Event}
use Rattle.rules_tcc.specs.Useful.{useful}
use Rattle.net_core.specs.Machine.{Machine, program_of, settings_of, world_of}

abbrev pub useful_events : Machine → List Event
useful_events m = useful (settings_of m) (program_of m) (world_of m)

abbrev pub first_useful : Machine → Option Event
first_useful m = slice_get (useful_events m) 0

-- that doesn't deliver another core's request for a TID
abbrev pub first_for : Machine → (core : ℕ) → Option Event
first_for m c = slice_get (filter (spares c) (useful_events m)) 0
