-- The text of counts: which lines it has, and in what order. All numbers are decimal.
use Rattle.std.specs.Prelude.{ℕ, List, ◌++◌, Bool, codes}
use Rattle.std.specs.List.{flat_map}
use Rattle.tcc_base.specs.Settings.{Settings}
use Rattle.schedule_text.specs.Grammar.{newline}
use Rattle.report_text.specs.Lines.{end_line, events_line}
use Rattle.watch_count.specs.Lines.{named}
use Rattle.watch_count.specs.Text.{entry_conflict, entry_line, tables_text}
use Rattle.bus_trace.specs.Lines.{bus_config_line}
use Rattle.bus_count.specs.declared.packets.PacketCounts.{PacketCounts}
use Rattle.bus_count.specs.Counts.{BusCounts}

unfoldable pub packets_line : PacketCounts → List ℕ
packets_line p =
    named (codes "packets all sent ") p.sent ++ named (codes " took ") p.took ++ named (codes " left ") p.left ++ newline

-- the whole text: whether the run is done and how many events it took, as is told here
unfoldable pub bus_count_text : Settings → (done : Bool) → (events : ℕ) → BusCounts → List ℕ
bus_count_text s done events c =
    codes "tcc-bus-count 1" ++ newline ++ bus_config_line s ++ tables_text c.common.cores ++ packets_line c.packets
    ++ flat_map entry_line c.common.lines ++ flat_map entry_conflict c.common.conflicts ++ end_line done ++ events_line events
