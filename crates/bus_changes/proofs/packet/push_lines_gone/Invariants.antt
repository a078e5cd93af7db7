-- What is written and the lines to come are what was there and all lines.
use Rattle.std.proofs.Common.{◌≡◌, ◌++◌, drop, map, string_bytes}
use Rattle.bus_tcc.specs.Packets.{packet_line_of}
use Rattle.bus_state.specs.Records.{PacketHas}
use Rattle.bus_changes.specs.Changes.{Gone, bus_change_lines}
use Rattle.bus_changes.proofs.packet.push_lines_gone.Given as goal

abbrev pub invariant-loop-line : goal.invariant-loop-line
invariant-loop-line l =
    string_bytes l.text ++ bus_change_lines (map Gone (map PacketHas (map packet_line_of (drop l.line-index l.lines))))
    ≡ string_bytes l.fn.text ++ bus_change_lines (map Gone (map PacketHas (map packet_line_of l.lines)))
