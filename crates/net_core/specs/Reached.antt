-- What a machine has come to is what the protocol's rules lead to from its start.
use Rattle.std.specs.Prelude.{◌≡◌, List, Some}
use Rattle.rules_maps.specs.Nodes.{Event}
use Rattle.rules_tcc.specs.Step.{run}
use Rattle.rules_riscv.specs.Starting.{world_at_start}
use Rattle.net_core.specs.Machine.{Machine, start_of, settings_of, program_of, history_of}

-- some list of events leads there from the start
pub record Reached (m : Machine) : Type 0 where
  pub taken : List Event
  pub reaches : run (settings_of m) (program_of m) (world_at_start (start_of m)) taken ≡ Some (history_of m)
