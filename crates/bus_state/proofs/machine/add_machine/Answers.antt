-- The arbiter, the packet and memory.
use Rattle.std.proofs.Common.{[], ◌∷◌, ◌++◌, ap, map, ◌∙◌}
use Rattle.std.proofs.lemmas.Result.{on_ok_weaker}
use Rattle.std.specs.List.{flat_map}
use Rattle.image_load.specs.Start.{first_ram}
use Rattle.tcc_base.specs.Settings.{Settings}
use Rattle.rules_maps.specs.Shape.{lines}
use Rattle.rules_tcc.specs.Seen.{numbers}
use Rattle.bus_tcc.specs.Machine.{bus_settings_of, bus_start_of, bus_world_of}
use Rattle.bus_tcc.specs.Packets.{packet_line_of}
use Rattle.watch_state.proofs.Lemmas.{then}
use Rattle.bus_state.specs.Parts.{bus_records, holding, memory_records, packet_records}
use Rattle.bus_state.specs.Plain.{bus_record_of}
use Rattle.bus_state.specs.Records.{ArbiterIs, PacketHas}
use Rattle.bus_state.proofs.machine.add_machine.Goals as goal

pub returns : goal.returns
unfolding bus_records packet_records
returns c =
    let m = c.args.system.now in
    let sh = bus_settings_of m in
    let w = bus_world_of m in
    let arbiter = ArbiterIs w.next (holding sh.cores w.bus) ∷ [] in
    let packet = packet_records sh w.bus in
    let memory = flat_map (memory_records sh (first_ram (bus_start_of m)) w.ram) (numbers (lines sh)) in
    let t0 = map bus_record_of c.args.records.now in
    let t1 = map bus_record_of c.add_arbiter.new.records in
    let t2 = map bus_record_of c.add_packet.new.records in
    let t3 = map bus_record_of c.add_memory.new.records in
    on_ok_weaker c.add_memory.result
    (λ last. then arbiter (packet ++ memory) t0 t1 t3
    (c.in_ok-add_arbiter.ensures
    ∙ (λ i. t0 ++ ArbiterIs (c.next.ensures i)
    (holding ((c.cores.ensures.value ∙ ap (λ (s : Settings). s.cores) c.config.ensures) i) (c.bus.ensures.bus i)) ∷ []))
    (then packet memory t1 t2 t3
    (c.in_ok-add_packet.ensures ∙ ap (λ ls. t1 ++ map PacketHas ls) (ap (map packet_line_of) c.lines.ensures.lines ∙ c.bus-2.ensures.lines))
    last))
    c.add_memory.ensures
