-- The lines of a trace: of the settings, of an event, and of a fact, which begins with a space.
use Rattle.std.specs.Prelude.{ℕ, List, ◌++◌, codes}
use Rattle.std.specs.Fmt.{decimal}
use Rattle.tcc_base.specs.Settings.{Settings}
use Rattle.rules_bus.specs.State.{BusEvent, Exec, Evict, Take}
use Rattle.bus_tcc.specs.Packets.{PacketLine}
use Rattle.schedule_text.specs.Grammar.{newline}
use Rattle.watch_trace.specs.Lines.{fact_line}
use Rattle.watch_trace.specs.Words.{field, value_words}
use Rattle.bus_watch.specs.Facts.{BusFact, Common, TookPacket, HeldBy, SentLine, Holder, Nobody, OneCore, PacketOf}

-- the settings: there are no directories
unfoldable pub bus_config_line : Settings → List ℕ
bus_config_line config =
    field (codes "cores ") config.cores ++ field (codes " sets ") config.sets ++ field (codes " ways ") config.ways
    ++ field (codes " base ") config.base ++ field (codes " ram ") config.ram ++ newline

unfoldable pub bus_event_line : BusEvent → List ℕ
bus_event_line (Exec core) = field (codes "e ") core ++ newline
bus_event_line (Evict core set way) = field (codes "x ") core ++ field (codes " ") set ++ field (codes " ") way ++ newline
bus_event_line (Take core) = field (codes "t ") core ++ newline

-- who has the bus
unfoldable pub holder_words : Holder → List ℕ
holder_words Nobody = codes "free"
holder_words (OneCore core) = field (codes "alone ") core
holder_words (PacketOf tid) = field (codes "packet ") tid

-- a line of a packet, with a dash for each word that the packet hasn't
unfoldable pub packet_line_words : PacketLine → List ℕ
packet_line_words d = field (codes " line ") d.line ++ field (codes " mask ") d.mask ++ value_words d.mask d.words

unfoldable pub bus_fact_line : BusFact → List ℕ
bus_fact_line (Common f) = fact_line f
bus_fact_line (TookPacket tid) = codes " took Packet" ++ field (codes " tid ") tid ++ newline
bus_fact_line (HeldBy h) = codes " bus " ++ holder_words h ++ newline
bus_fact_line (SentLine d) = codes " sent Packet" ++ packet_line_words d ++ newline
