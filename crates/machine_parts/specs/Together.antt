-- The state of the rules that the parts of a machine stand for.
use Rattle.std.specs.Prelude.{ℕ, ◌≡◌, ◌≤◌, ◌^◌, true, Some}
use Rattle.rules_maps.specs.Nodes.{Node, Msg}
use Rattle.rules_tcc.specs.Links.{in_flight}
use Rattle.rules_tcc.specs.State.{World}
use Rattle.rules_tcc.specs.Step.{History}
use Rattle.machine_cores.specs.Bank.{cores_of}
use Rattle.machine_dirs.specs.Bank.{dirs_of}
use Rattle.machine_links.specs.Flights.{is_ready, net_of}
use Rattle.theorem_sound.specs.Sound.{Sound}
use Rattle.machine_parts.specs.Directories.{SharersExist}
use Rattle.machine_parts.specs.Parts.{AreParts, PartsData}

-- ram: what stands elsewhere
unfoldable pub world_by : (ram : ℕ → ℕ) → PartsData → World
world_by ram p = record { cores = cores_of p.cores; dirs = dirs_of ram p.dirs; next = p.next; net = net_of p.flights }

unfoldable pub history_by : (ram : ℕ → ℕ) → PartsData → History
history_by ram p = record { world = world_by ram p; commits = p.commits.list }

-- the rules can go on from this state; each message in flight is marked as one that may be delivered, and sharers exist
pub record AreSound (p : PartsData) : Type 0 where
  pub parts : AreParts p
  pub few : p.events ≤ 2 ^ 40
  pub sound : (ram : ℕ → ℕ) → Sound p.cores.code.settings p.events (history_by ram p)
  pub ready : (src dst : Node) (k : ℕ) (m : Msg) → in_flight (net_of p.flights) src dst k ≡ Some m → is_ready p.flights src dst k ≡ true
  pub sharers : (ram : ℕ → ℕ) (d : ℕ) → SharersExist p.cores.code.settings (dirs_of ram p.dirs d).lines
