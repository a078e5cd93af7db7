-- The fields of counts.
use Rattle.std.specs.Prelude.{map}
use Rattle.bus_tcc.specs.Packets.{packet_line_of}
use Rattle.bus_count.specs.declared.counts.BusCounts.TheInside.{Inside}
use Rattle.bus_count.specs.Counts.{BusCounts}

abbrev pub bus_counts_of : Inside → BusCounts
bus_counts_of c = record { common = c.common; packets = c.packets; lines = map packet_line_of c.lines }
