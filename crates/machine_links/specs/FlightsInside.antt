-- The fields of the messages in flight, and what always holds of them.
use Rattle.std.specs.Prelude.{ℕ, ◌≡◌, ◌*◌, ◌^◌, ◌≤◌, false, [], map, length, slice_index_or}
use Rattle.std.specs.List.{count_by, sum_by}
use Rattle.machine_links.specs.declared.flights.InFlight.TheInside.{Inside}
use Rattle.machine_links.specs.Lane.{is_marked, is_waiting}
use Rattle.machine_links.specs.Places.{is_link, node_count, src_at, dst_at}
use Rattle.machine_links.specs.Flights.{Flights, AllListed, net_of}

abbrev pub flights_of : Inside → Flights
flights_of f = record { cores = f.grid.cores; dirs = f.grid.dirs; lanes = f.lanes.items; index = f.index }

-- how many pairs of nodes there are
abbrev pub pair_count : (cores dirs : ℕ) → ℕ
pair_count cs ds = node_count cs ds * node_count cs ds

-- there is a lane for each pair of nodes, and nothing on it where they have no link; the marked ones are counted by place, and
-- all in flight together, of which there are few; and those that are about something are listed
pub record IsFlights (f : Inside) : Type 0 where
  pub cores : f.grid.cores ≤ 64
  pub dirs : f.grid.dirs ≤ 64
  pub all : length f.lanes.items ≡ pair_count f.grid.cores f.grid.dirs
  pub unlinked : (i : ℕ) → is_link f.grid.cores f.grid.dirs (src_at f.grid.cores f.grid.dirs i) (dst_at f.grid.cores f.grid.dirs i) ≡ false
      → slice_index_or f.lanes.items i [] ≡ []
  pub counted : f.ready ≡ map (count_by is_marked) f.lanes.items
  pub flying : f.flying ≡ sum_by (count_by is_waiting) f.lanes.items
  pub few : f.flying ≤ 2 ^ 48
  pub listed : AllListed (net_of (flights_of f)) f.index
