-- The totals as two rows for a table: the names, and the numbers.
use Rattle.std.specs.Prelude.{ℕ, List, ◌++◌, Bool, Option, codes}
use Rattle.tcc_base.specs.Settings.{Settings}
use Rattle.schedule_text.specs.Grammar.{newline}
use Rattle.watch_count.specs.Csv.{cell, core_cells, end_cell, seed_cells, table_names}
use Rattle.watch_count.specs.Totals.{all_cores}
use Rattle.bus_count.specs.declared.packets.PacketCounts.{PacketCounts}
use Rattle.bus_count.specs.Counts.{BusCounts}

abbrev pub bus_names : List ℕ
bus_names =
    codes "tcc-bus-count,cores,sets,ways,base,ram,seed,steps,end,events" ++ table_names
    ++ codes ",packets_sent,packets_took,packets_left"

-- the settings: there are no directories
unfoldable pub bus_settings_cells : Settings → List ℕ
bus_settings_cells s = cell s.cores ++ cell s.sets ++ cell s.ways ++ cell s.base ++ cell s.ram

unfoldable pub packets_cells : PacketCounts → List ℕ
packets_cells p = cell p.sent ++ cell p.took ++ cell p.left

-- both rows, of the numbers of all cores and of packets
unfoldable pub bus_csv_text : Settings → (seed : Option (ℕ × ℕ)) → (done : Bool) → (events : ℕ) → BusCounts → List ℕ
bus_csv_text s seed done events c =
    bus_names ++ newline ++ codes "1" ++ bus_settings_cells s ++ seed_cells seed ++ end_cell done ++ cell events
    ++ core_cells (all_cores c.common.cores) ++ packets_cells c.packets ++ newline
