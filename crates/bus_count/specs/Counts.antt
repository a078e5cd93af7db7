-- All that is counted of a run on the machine with one bus: sums over the facts of its events.
use Rattle.std.specs.Prelude.{ℕ, ◌+◌, ◌-◌, List, [], ◌∷◌, ◌++◌, length, map}
use Rattle.rules_maps.specs.Nodes.{Core, Inv}
use Rattle.watch.specs.Facts.{Fact, Took}
use Rattle.bus_tcc.specs.Packets.{PacketLine}
use Rattle.bus_watch.specs.Facts.{BusFact, Common, TookPacket, HeldBy, SentLine, PacketOf}
use Rattle.watch_count.specs.Counts.{Counts, all_counted, event_begun, nothing_counted}
use Rattle.bus_count.specs.declared.packets.PacketCounts.{PacketCounts}

pub record BusCounts : Type 0 where
  pub common : Counts  -- as on the machine with directories
  pub packets : PacketCounts
  pub lines : List PacketLine  -- of the packet that was sent last

-- a packet that has this line is taken
abbrev pub invalidation : (tid : ℕ) → PacketLine → Fact
invalidation t d = Took (Inv d.line d.mask t)

-- What a fact is on the machine with directories: a packet that is taken invalidates each of its lines, and the bus is nothing there.
abbrev pub as_common : (lines : List PacketLine) → BusFact → List Fact
as_common ls (Common f) = f ∷ []
as_common ls (TookPacket t) = map (invalidation t) ls
as_common ls (HeldBy h) = []
as_common ls (SentLine d) = []

-- packets that were sent and taken; and the cores that are to take the last one, of which there are as many as this says at first
unfoldable pub packets_after : (takers : ℕ) → BusFact → PacketCounts → PacketCounts
packets_after n (HeldBy (PacketOf t)) p = record { sent = p.sent + 1; took = p.took; left = n }
packets_after n (TookPacket t) p = record { sent = p.sent; took = p.took + 1; left = p.left - 1 }
packets_after n _ p = p

-- the lines of the packet that was sent last
unfoldable pub lines_after : BusFact → List PacketLine → List PacketLine
lines_after (HeldBy (PacketOf t)) ls = []
lines_after (SentLine d) ls = ls ++ d ∷ []
lines_after _ ls = ls

abbrev pub no_packets : PacketCounts
no_packets = record { sent = 0; took = 0; left = 0 }

-- nothing has happened
unfoldable pub nothing_on_bus : (cores : ℕ) → BusCounts
nothing_on_bus n = record { common = nothing_counted n; packets = no_packets; lines = [] }

-- one fact of an event of this core; all cores but one take a packet
unfoldable pub bus_counted : (core : ℕ) → BusFact → BusCounts → BusCounts
bus_counted core f c = record {
  common = all_counted (Core core) (as_common c.lines f) c.common;
  packets = packets_after (length c.common.cores - 1) f c.packets;
  lines = lines_after f c.lines;
}

unfoldable pub all_bus_counted : (core : ℕ) → List BusFact → BusCounts → BusCounts
all_bus_counted core [] c = c
all_bus_counted core (f ∷ fs) c = all_bus_counted core fs (bus_counted core f c)

-- an event comes
unfoldable pub bus_event_begun : BusCounts → BusCounts
bus_event_begun c = record c { common = event_begun c.common }

-- an event of this core with these facts
unfoldable pub bus_event_counted : (core : ℕ) → List BusFact → BusCounts → BusCounts
bus_event_counted core fs c = all_bus_counted core fs (bus_event_begun c)

-- the events of a run, each with its core and its facts
unfoldable pub bus_run_counted : List (ℕ × List BusFact) → BusCounts → BusCounts
bus_run_counted [] c = c
bus_run_counted (e ∷ es) c = bus_run_counted es (bus_event_counted e.0 e.1 c)
