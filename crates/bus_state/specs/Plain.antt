-- The records of the code as the records that are defined.
use Rattle.rules_maps.specs.Masks.{has}
use Rattle.rules_maps.specs.Words.{those}
use Rattle.bus_tcc.specs.Packets.{packet_line_of}
use Rattle.bus_state.specs.Records as plain
use Rattle.bus_state.specs.declared.records.BusRecord.{BusRecord}
use Rattle.bus_state.specs.declared.records.BusRecord.TheVariants as code
use Rattle.bus_state.specs.declared.records.Holding.{Holding}
use Rattle.bus_state.specs.declared.records.Holding.TheVariants as holding

abbrev pub holding_of : Holding → plain.Holding
holding_of holding.Nobody = plain.Nobody
holding_of (holding.Core c) = plain.OneCore c.0
holding_of (holding.Left cs) = plain.LeftTo (those (has cs.bits) 64)

abbrev pub bus_record_of : BusRecord → plain.BusRecord
bus_record_of (code.ArbiterIs t h) = plain.ArbiterIs t.0 (holding_of h)
bus_record_of (code.PacketHas t) = plain.PacketHas (packet_line_of t)
bus_record_of (code.MemoryWord addr value) = plain.MemoryWord addr value
