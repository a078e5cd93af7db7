-- The bus, whose packet is in order.
use Rattle.std.proofs.Common.{ap, ◌∙◌}
use Rattle.bus_tcc.specs.Left.{packet_words}
use Rattle.bus_tcc.specs.Machine.{bus_of, bus_settings_of, bus_world_of}
use Rattle.bus_tcc.specs.Packets.{packet_lines}
use Rattle.bus_tcc.proofs.PacketLines.{on-bus-words}
use Rattle.bus_tcc.proofs.engine.Engine.bus.Goals as goal

pub returns-clause-bus : goal.returns-clause-bus
unfolding bus_world_of
returns-clause-bus c = ap (λ m. bus_of m.bus) c.self.view_is

pub returns-clause-lines : goal.returns-clause-lines
unfolding bus_world_of
returns-clause-lines c =
    c.self.invariant.packet ∙ ap (packet_lines c.self.inside.cores.code.settings) (on-bus-words c.self.inside.bus)
    ∙ ap (λ m. packet_lines (bus_settings_of m) (packet_words (bus_of m.bus))) c.self.view_is
