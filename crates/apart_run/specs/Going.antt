-- How a machine goes on by itself.
use Rattle.std.specs.Prelude.{ℕ, List, replicate}
use Rattle.rules_maps.specs.Nodes.{Event}
use Rattle.rules_tcc.specs.Picked.{picked}
use Rattle.net_core.specs.Machine.{Machine, program_of, settings_of, world_of}

-- the first useful event from here on, n times, or fewer where none is useful any more
abbrev pub goes_on : (n : ℕ) → Machine → List Event
goes_on n m = picked (settings_of m) (program_of m) (replicate n 0) (world_of m)
