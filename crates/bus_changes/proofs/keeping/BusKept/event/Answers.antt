-- What changed is told, and what there is now is kept.
use Rattle.std.proofs.Common.{string_bytes, subst, sym}
use Rattle.bus_tcc.specs.Machine.{bus_settings_of, bus_world_of}
use Rattle.bus_changes.specs.Plain.{IsKept}
use Rattle.bus_changes.proofs.Steps.{bus-copied, copy-of, lines-copied, lines-now, looked, none-in-place}
use Rattle.bus_changes.proofs.keeping.BusKept.event.Goals as goal

pub returns : goal.returns
returns c = λ w k f.
    let m = c.args.system.now in
    let sh = bus_settings_of m in
    let v = bus_world_of m in
    let before = subst (λ o. IsKept o sh w) (sym c.self.view_is) k in
    looked _ _ m c.args.core.0 w c.in_ok-fresh.fresh (string_bytes c.args.text.now) (string_bytes c.renew_at.new.text)
    (string_bytes c.push_arbiter.new.text) (string_bytes c.push_packet.new.text) (string_bytes c.push_memory.new.text)
    c.requires.exists before f c.in_ok-fresh.ensures c.in_ok-renew_at.ensures.kept c.next-self-inside.ensures
    (bus-copied v.bus _ _ c.in_ok-self-inside.ensures c.bus-2.ensures.bus)
    (lines-copied sh v.bus _ _ c.in_ok-self-inside.ensures c.bus-2.ensures.bus c.bus-2.ensures.lines)
    c.in_ok-renew_at.ensures.told c.in_ok-push_arbiter.ensures
    (c.in_ok-push_packet.ensures sh before.packet (lines-now sh c.bus.result.now v.bus c.bus.ensures.bus c.bus.ensures.lines)
    (none-in-place w.bus v.bus _ _ before.bus c.bus.ensures.bus f.packet))
    c.bus.ensures.bus
    (c.in_ok-push_memory.ensures w (copy-of sh w _ before) before.next f.memory)
