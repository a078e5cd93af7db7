-- Which messages may be delivered, and where messages may go.
use Rattle.std.specs.Prelude.{ℕ, ◌≡◌, Bool, true, false, Some}
use Rattle.tcc_base.specs.Settings.{Settings}
use Rattle.rules_maps.specs.Nodes.{Node, Core, Dir, Msg}
use Rattle.rules_tcc.specs.DirDeliver.{dir_deliver}
use Rattle.rules_tcc.specs.Links.{in_flight}
use Rattle.rules_tcc.specs.State.{DirState, Link}
use Rattle.directory.specs.Foreign.{is_foreign}
use Rattle.directory.specs.Gives.{is_taken}
use Rattle.directory.specs.declared.handled.Handled.{Handled}
use Rattle.directory.specs.declared.handled.Handled.TheVariants.{Handled as Done, Waits, Asked, Dropped}
use Rattle.machine_links.specs.Flights.{Flights, net_of, is_ready}
use Rattle.machine_links.specs.Places.{is_link}

-- what goes to a directory where that takes it, all else always
abbrev pub is_deliverable : Settings → (dirs : ℕ → DirState) → (src dst : Node) → Msg → Bool
is_deliverable s dirs (Core c) (Dir d) m = is_taken (dir_deliver s (dirs d) c m)
is_deliverable s dirs src dst m = true

-- the mark of each message that stands on its link says this
unfoldable pub AreMarked : Settings → (dirs : ℕ → DirState) → Flights → Type 0
AreMarked s dirs f = (src dst : Node) (k : ℕ) (m : Msg) → in_flight (net_of f) src dst k ≡ Some m
    → is_ready f src dst k ≡ is_deliverable s dirs src dst m

-- the directory has consumed the message that it handled so
abbrev pub is_consumed : Handled → Bool
is_consumed Done = true
is_consumed Dropped = true
is_consumed Asked = false
is_consumed Waits = false

-- what goes to a directory is of a kind and of a line that belong there
abbrev pub is_astray : Settings → (src dst : Node) → Msg → Bool
is_astray s (Core c) (Dir d) m = is_foreign (record { shape = s; dir = d }) m
is_astray s src dst m = false

-- the machine has the link, and the message belongs there
pub record MayGo (s : Settings) (src dst : Node) (m : Msg) : Type 0 where
  pub link : is_link s.cores s.dirs src dst ≡ true
  pub belongs : is_astray s src dst m ≡ false

unfoldable pub AllMayGo : Settings → (Node → Node → Link) → Type 0
AllMayGo s net = (src dst : Node) (k : ℕ) (m : Msg) → in_flight net src dst k ≡ Some m → MayGo s src dst m
