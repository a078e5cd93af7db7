-- The attempt, the registers, the cache, and what was spilled.
use Rattle.std.proofs.Common.{◌++◌, map}
use Rattle.std.specs.List.{flat_map}
use Rattle.rules_maps.specs.Shape.{lines}
use Rattle.rules_tcc.specs.Seen.{numbers}
use Rattle.core_node.specs.View.{core_of}
use Rattle.watch_state.specs.Cores.{attempt_records, cached_records, core_records, register_records, set_records, spilled_records}
use Rattle.watch_state.specs.Plain.{record_of}
use Rattle.watch_state.proofs.Growing.{then}
use Rattle.watch_state.proofs.cores.add_core.Goals as goal

pub returns : goal.returns
unfolding core_records cached_records core_of
returns c =
    let id = c.args.id.0 in
    let core = c.args.core.now in
    let sh = core.config in
    let attempt = attempt_records sh id (core_of core) in
    let registers = register_records id (core_of core) in
    let ways = flat_map (set_records id sh.ways (core_of core).cache) (numbers sh.sets) in
    let spills = flat_map (spilled_records sh id (core_of core).spilled) (numbers (lines sh)) in
    let t0 = map record_of c.args.records.now in
    let t1 = map record_of c.add_attempt.new.records in
    let t2 = map record_of c.add_registers.new.records in
    let t3 = map record_of c.add_ways.new.records in
    let t4 = map record_of c.add_spills.new.records in
    then attempt (registers ++ (ways ++ spills)) t0 t1 t4 (rw c.core-held.ensures at c.in_ok-add_attempt.ensures)
    (then registers (ways ++ spills) t1 t2 t4 (rw c.core-held.ensures at c.in_ok-add_registers.ensures)
    (then ways spills t2 t3 t4 (rw (c.sets.ensures.value, c.ways.ensures.value, c.core-held.ensures) at c.in_ok-add_ways.ensures)
    (rw c.core-held.ensures at c.in_ok-add_spills.ensures)))
