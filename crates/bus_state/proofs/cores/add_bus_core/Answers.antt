-- What the attempt has come to, the registers, and the cache.
use Rattle.std.proofs.Common.{◌++◌, map, ◌∙◌}
use Rattle.std.proofs.lemmas.Result.{on_ok_weaker}
use Rattle.bus_tcc.specs.Machine.{bus_settings_of, bus_world_of}
use Rattle.watch_state.specs.Cores.{cached_records, register_records}
use Rattle.watch_state.specs.Plain.{record_of}
use Rattle.watch_state.specs.Progress.{progress_records}
use Rattle.watch_state.proofs.Lemmas.{then}
use Rattle.bus_state.specs.Parts.{bus_core_records}
use Rattle.bus_state.proofs.cores.add_bus_core.Goals as goal

pub returns : goal.returns
unfolding bus_core_records
returns c =
    let m = c.args.system.now in
    let sh = bus_settings_of m in
    let id = c.args.id.0 in
    let s = (bus_world_of m).cores id in
    let t0 = map record_of c.args.records.now in
    let t1 = map record_of c.add_progress.new.records in
    let t2 = map record_of c.add_registers.new.records in
    let t3 = map record_of c.add_cached.new.records in
    on_ok_weaker c.add_cached.result
    (λ last. then (progress_records id s) (register_records id s ++ cached_records sh id s) t0 t1 t3
    (rw (c.core.ensures, c.core-core.ensures.state) at c.in_ok-add_progress.ensures)
    (then (register_records id s) (cached_records sh id s) t1 t2 t3
    (rw (c.core-2.ensures, c.core-core.ensures.state) at c.in_ok-add_registers.ensures)
    (last ∙ (λ i. t2 ++ cached_records (c.core-core.ensures.config i) id (c.core-core.ensures.state i)))))
    c.add_cached.ensures
