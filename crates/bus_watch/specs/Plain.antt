-- The facts of the code as the facts that are defined.
use Rattle.bus_tcc.specs.Packets.{packet_line_of}
use Rattle.watch.specs.Plain.{fact_of}
use Rattle.bus_watch.specs.Facts as plain
use Rattle.bus_watch.specs.declared.fact.BusFact.{BusFact}
use Rattle.bus_watch.specs.declared.fact.BusFact.TheVariants as fact
use Rattle.bus_watch.specs.declared.fact.Holder.{Holder}
use Rattle.bus_watch.specs.declared.fact.Holder.TheVariants as holder

abbrev pub holder_of : Holder → plain.Holder
holder_of holder.Nobody = plain.Nobody
holder_of (holder.Core c) = plain.OneCore c.0
holder_of (holder.Packet t) = plain.PacketOf t.0

abbrev pub bus_fact_of : BusFact → plain.BusFact
bus_fact_of (fact.Common f) = plain.Common (fact_of f)
bus_fact_of (fact.TookPacket t) = plain.TookPacket t.0
bus_fact_of (fact.HeldBy h) = plain.HeldBy (holder_of h)
bus_fact_of (fact.SentLine t) = plain.SentLine (packet_line_of t)
