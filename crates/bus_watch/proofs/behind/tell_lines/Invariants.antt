-- What is told and the lines to come are what was told and all lines.
use Rattle.std.proofs.Common.{◌≡◌, ◌++◌, drop, map}
use Rattle.bus_tcc.specs.Packets.{packet_line_of}
use Rattle.bus_watch.specs.Facts.{SentLine}
use Rattle.bus_watch.specs.Plain.{bus_fact_of}
use Rattle.bus_watch.proofs.behind.tell_lines.Given as goal

abbrev pub invariant-loop-line : goal.invariant-loop-line
invariant-loop-line l = map bus_fact_of l.facts ++ map SentLine (map packet_line_of (drop l.line-index l.lines))
    ≡ map bus_fact_of l.fn.facts ++ map SentLine (map packet_line_of l.lines)
