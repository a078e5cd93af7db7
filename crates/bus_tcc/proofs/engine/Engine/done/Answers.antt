-- Whether the machine is done.
use Rattle.std.proofs.Common.{◌≡◌, ap, sym, ◌∙◌, subst, not, false, true}
use Rattle.std.specs.Prelude.{IsTrue}
use Rattle.rules_bus.specs.Useful.{BusIsDone}
use Rattle.bus_tcc.specs.Machine.{BusMachine, bus_settings_of, bus_world_of}
use Rattle.bus_tcc.proofs.engine.Engine.done.Goals as goal

pub returns-then-not-is_packet : goal.returns-then-not-is_packet
unfolding bus_world_of
returns-then-not-is_packet c =
    subst (λ (m : BusMachine). (IsTrue c.all_halted.result → BusIsDone (bus_settings_of m) (bus_world_of m))
    × (BusIsDone (bus_settings_of m) (bus_world_of m) → IsTrue c.all_halted.result))
    c.self.view_is (
      λ t. record { halted = c.all_halted.ensures.0 t; quiet = sym c.is_packet.ensures ∙ c.if-not-is_packet.true },
      λ d. c.all_halted.ensures.1 d.halted,
    )

pub returns-else-not-is_packet : goal.returns-else-not-is_packet
unfolding bus_world_of
returns-else-not-is_packet c =
    let busy = ap not c.if-not-is_packet.false in
    subst (λ (m : BusMachine). (IsTrue (not c.is_packet.result) → BusIsDone (bus_settings_of m) (bus_world_of m))
    × (BusIsDone (bus_settings_of m) (bus_world_of m) → IsTrue (not c.is_packet.result)))
    c.self.view_is (
      λ t. let clash : false ≡ true = sym busy ∙ t in absurd (cc),
      λ d. let clash : false ≡ true = sym d.quiet ∙ sym c.is_packet.ensures ∙ c.if-not-is_packet.false in absurd (cc),
    )
