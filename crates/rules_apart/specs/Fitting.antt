-- Logs that fit one another, and the one list of events that they are together.
use Rattle.std.specs.Prelude.{ℕ, ◌+◌, ◌≡◌, List, [], map, length, slice_index_or}
use Rattle.image_load.specs.Start.{Start}
use Rattle.rv_code.specs.Machine.{program}
use Rattle.rules_riscv.specs.Starting.{world_at_start}
use Rattle.tcc_base.specs.Settings.{Settings}
use Rattle.rules_maps.specs.Nodes.{Node, Core, Dir, Vendor}
use Rattle.tcc_msg.specs.declared.event.Event.{Event}
use Rattle.rules_tcc.specs.Local.{Side}
use Rattle.rules_tcc.specs.Merged.{Fit, IsMerged}
use Rattle.rules_apart.specs.Filled.{filled, bare}
use Rattle.rules_apart.specs.declared.logs.Logged.{Logged}

-- a node's place in the order of nodes: cores by number, directories by number, the vendor
abbrev pub place : Settings → Node → ℕ
place s (Core c) = c
place s (Dir d) = s.cores + d
place s Vendor = s.cores + s.dirs

abbrev pub node_count : Settings → ℕ
node_count s = s.cores + s.dirs + 1

unfoldable pub log_of : Settings → List (List Logged) → Node → List Logged
log_of s logs n = slice_index_or logs (place s n) []

-- There is a log for each node, and each node by itself, by the rules, does what its log says, with the messages that the other nodes'
-- logs send; stamps rise along each log, and from the sending of a message to its handling.
pub record FitLogs (s : Start) (logs : List (List Logged)) : Type 0 where
  pub count : length logs ≡ node_count s.settings
  pub sides : Node → Side
  pub fits : Fit s.settings (program s) (world_at_start s) (λ n. map (filled (λ src. (sides src).sent n)) (log_of s.settings logs n)) sides

-- These are the events of all logs, sorted by stamp and then by node.
pub record IsMergeOf (s : Settings) (logs : List (List Logged)) (events : List Event) : Type 0 where
  pub entries : List Logged
  pub events_are : events ≡ map (λ e. e.event) entries
  pub merged : IsMerged s (λ n. map bare (log_of s logs n)) (map bare entries)
