use Rattle.std.proofs.Common.{◌≡◌, arith, map}
use Rattle.image_load.specs.Start.{first_ram}
use Rattle.rules_maps.specs.Words.{word_at}
use Rattle.bus_tcc.specs.Machine.{bus_settings_of, bus_start_of, bus_world_of}
use Rattle.watch_state.proofs.Lemmas.{piece-more}
use Rattle.bus_state.specs.Parts.{memory_record, memory_records}
use Rattle.bus_state.specs.Plain.{bus_record_of}
use Rattle.bus_state.proofs.memory.add_line.Goals as goal

pub loop-k-preserved : goal.loop-k-preserved
loop-k-preserved c =
    let m = c.args.system.now in
    piece-more
    (λ k. memory_record (bus_settings_of m) (first_ram (bus_start_of m)) (bus_world_of m).ram (word_at c.args.line.0 k))
    c.loop-k.k (map bus_record_of c.args.records.now) (map bus_record_of c.loop-k.records) (map bus_record_of c.add_word.new.records)
    c.loop-k.invariant c.in_ok-add_word.ensures

pub returns : goal.returns
unfolding memory_records
returns c =
    let all : c.loop-k.k ≡ 8 = omega (arith, c.loop-k-test.false) in
    rw all at c.loop-k.invariant
