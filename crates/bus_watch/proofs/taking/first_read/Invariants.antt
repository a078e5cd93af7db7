-- No word of the lines so far was read.
use Rattle.std.proofs.Common.{◌≡◌, drop, map}
use Rattle.core_node.specs.View.{core_of}
use Rattle.bus_tcc.specs.Packets.{packet_line_of}
use Rattle.bus_watch.specs.Happened.{first_read}
use Rattle.bus_watch.proofs.taking.first_read.Given as goal

abbrev pub invariant-loop-line : goal.invariant-loop-line
invariant-loop-line l =
    first_read (map packet_line_of (drop l.line-index l.lines)) (core_of l.core) ≡ first_read (map packet_line_of l.lines) (core_of l.core)
