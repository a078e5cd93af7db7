-- The messages to one directory looked at again, core after core.
use Rattle.std.proofs.Common.{◌≡◌, ℕ, ◌<◌, false, Some}
use Rattle.rules_maps.specs.Nodes.{Node, Msg, Core, Dir, node_eq}
use Rattle.rules_tcc.specs.DirDeliver.{dir_deliver}
use Rattle.rules_tcc.specs.Links.{in_flight}
use Rattle.directory.specs.Data.{DirData, dir_of}
use Rattle.directory.specs.Gives.{is_taken}
use Rattle.machine_links.specs.Flights.{Flights, net_of, is_ready}

-- those from the first n cores have the mark that they are to have, and messages to others keep theirs
pub record MarkedFrom (x : DirData) (d n : ℕ) (old new : Flights) : Type 0 where
  pub cores : new.cores ≡ old.cores
  pub dirs : new.dirs ≡ old.dirs
  pub net : net_of new ≡ net_of old
  pub here : (e : ℕ → ℕ) (c k : ℕ) (m : Msg) → c < n → in_flight (net_of old) (Core c) (Dir d) k ≡ Some m
      → is_ready new (Core c) (Dir d) k ≡ is_taken (dir_deliver x.lines.place.shape (dir_of e x) c m)
  pub others : (t u : Node) (k : ℕ) → node_eq u (Dir d) ≡ false → is_ready new t u k ≡ is_ready old t u k
