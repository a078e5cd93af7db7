use Rattle.std.proofs.Common.{map}
use Rattle.image_load.specs.Start.{first_ram}
use Rattle.bus_tcc.specs.Machine.{bus_settings_of, bus_start_of, bus_world_of}
use Rattle.watch_state.proofs.Lemmas.{piece-more}
use Rattle.bus_state.specs.Parts.{memory_records}
use Rattle.bus_state.specs.Plain.{bus_record_of}
use Rattle.bus_state.proofs.memory.add_memory.Goals as goal

pub loop-line-preserved : goal.loop-line-preserved
loop-line-preserved c =
    let m = c.args.system.now in
    piece-more (memory_records (bus_settings_of m) (first_ram (bus_start_of m)) (bus_world_of m).ram) c.loop-line.line
    (map bus_record_of c.args.records.now) (map bus_record_of c.loop-line.records) (map bus_record_of c.add_line.new.records)
    c.loop-line.invariant c.in_ok-add_line.ensures
