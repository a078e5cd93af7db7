-- What is there and the lines to come are what was there and all lines.
use Rattle.std.proofs.Common.{◌≡◌, ◌++◌, drop, map}
use Rattle.bus_tcc.specs.Packets.{packet_line_of}
use Rattle.bus_state.specs.Plain.{bus_record_of}
use Rattle.bus_state.specs.Records.{PacketHas}
use Rattle.bus_state.proofs.machine.add_packet.Given as goal

abbrev pub invariant-loop-line : goal.invariant-loop-line
invariant-loop-line l =
    map bus_record_of l.records ++ map PacketHas (map packet_line_of (drop l.line-index l.lines))
    ≡ map bus_record_of l.fn.records ++ map PacketHas (map packet_line_of l.lines)
