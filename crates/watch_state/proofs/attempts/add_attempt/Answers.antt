-- The core, its reservation, its end, the line that it awaits, the directories that owe it a reply, and where it committed.
use Rattle.std.proofs.Common.{[], ◌∷◌, ◌++◌, map}
use Rattle.std.specs.List.{flat_map}
use Rattle.rules_maps.specs.Masks.{has}
use Rattle.rules_maps.specs.Words.{those}
use Rattle.rules_tcc.specs.Seen.{numbers}
use Rattle.commit_engine.specs.Engine.{after_of, phase_of}
use Rattle.rv_exec.specs.Outcomes.{outcome_of}
use Rattle.core_node.specs.View.{awaited_of, core_of}
use Rattle.watch_state.specs.Cores.{attempt_records, awaited_record, committed_record, ended_record, owed_record, reserved_record}
use Rattle.watch_state.specs.Plain.{record_of}
use Rattle.watch_state.specs.Records.{CoreIs}
use Rattle.watch_state.proofs.Growing.{then}
use Rattle.watch_state.proofs.attempts.add_attempt.Goals as goal

pub returns : goal.returns
unfolding attempt_records core_of
returns c =
    let id = c.args.id.0 in
    let core = c.args.core.now in
    let dirs = c.args.config.now.dirs in
    let reserved = reserved_record id core.state.reserved in
    let ended = ended_record id (outcome_of core.ended) in
    let awaited = awaited_record id (awaited_of core.awaited) in
    let owed = owed_record id (those (has core.owing.bits) dirs) in
    let committed = flat_map (committed_record id (after_of core.after)) (numbers dirs) in
    let first = CoreIs id core.n core.state.pc (phase_of core.phase) ∷ [] in
    let t0 = map record_of c.args.records.now in
    let t1 = map record_of c.add.new.records in
    let t2 = map record_of c.add_reserved.new.records in
    let t3 = map record_of c.add_ended.new.records in
    let t4 = map record_of c.add_awaited.new.records in
    let t5 = map record_of c.add_owed.new.records in
    let t6 = map record_of c.add_all_committed.new.records in
    then first (reserved ++ (ended ++ (awaited ++ (owed ++ committed)))) t0 t1 t6 (rw c.pc-pc.ensures at c.in_ok-add.ensures)
    (then reserved (ended ++ (awaited ++ (owed ++ committed))) t1 t2 t6 (rw c.reserved.ensures at c.in_ok-add_reserved.ensures)
    (then ended (awaited ++ (owed ++ committed)) t2 t3 t6 c.in_ok-add_ended.ensures
    (then awaited (owed ++ committed) t3 t4 t6 c.in_ok-add_awaited.ensures
    (then owed committed t4 t5 t6 (rw c.dirs-dirs.ensures.value at c.in_ok-add_owed.ensures)
    (rw c.dirs-dirs.ensures.value at c.in_ok-add_all_committed.ensures)))))
