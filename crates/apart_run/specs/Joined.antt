-- The schedule that a run of threads comes to.
use Rattle.std.specs.Prelude.{ℕ, ◌-◌, ◌≤◌, ◌≡◌, List, ◌++◌, length, map, replicate, Some}
use Rattle.image_load.specs.Start.{Start}
use Rattle.rules_apart.specs.Fitting.{FitLogs, IsMergeOf}
use Rattle.rules_apart.specs.declared.logs.Logged.{Logged}
use Rattle.rv_code.specs.Machine.{program}
use Rattle.rules_riscv.specs.Starting.{world_at_start}
use Rattle.rules_maps.specs.Nodes as rules
use Rattle.tcc_msg.specs.Plain.{event_of}
use Rattle.tcc_msg.specs.declared.event.Event.{Event}
use Rattle.rules_tcc.specs.Picked.{picked}
use Rattle.rules_tcc.specs.State.{World}
use Rattle.rules_tcc.specs.Step.{History, run}

-- the merge of logs that nodes wrote by themselves and that fit one another: so many events at most
pub record IsMergedRun (s : Start) (steps : ℕ) (events : List Event) : Type 0 where
  pub logs : List (List Logged)
  pub fits : FitLogs s logs
  pub merge : IsMergeOf s.settings logs events
  pub few : length events ≤ steps

-- the first useful event, n times, or fewer where none is useful any more: the random word 0 picks the first
abbrev pub first_useful : Start → (n : ℕ) → World → List rules.Event
first_useful s n w = picked s.settings (program s) (replicate n 0) w

-- The schedule that threads make: merged events, and then the first useful event, time after time, until there are `steps` of them or
-- none is useful.
pub record IsJoined (s : Start) (steps : ℕ) (events : List Event) : Type 0 where
  pub merged : List Event
  pub by_threads : IsMergedRun s steps merged
  pub middle : History  -- where the merged events lead
  pub leads : run s.settings (program s) (world_at_start s) (map event_of merged) ≡ Some middle
  pub events_are : map event_of events ≡ map event_of merged ++ first_useful s (steps - length merged) middle.world
