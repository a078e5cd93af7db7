-- The core, its reservation, and its end.
use Rattle.std.proofs.Common.{[], ◌∷◌, ◌++◌, map}
use Rattle.commit_engine.specs.Engine.{phase_of}
use Rattle.rv_exec.specs.Outcomes.{outcome_of}
use Rattle.core_node.specs.View.{core_of}
use Rattle.watch_state.specs.Cores.{ended_record, reserved_record}
use Rattle.watch_state.specs.Plain.{record_of}
use Rattle.watch_state.specs.Progress.{progress_records}
use Rattle.watch_state.specs.Records.{CoreIs}
use Rattle.watch_state.proofs.Growing.{then}
use Rattle.std.proofs.lemmas.Result.{on_ok_weaker}
use Rattle.watch_state.proofs.attempts.add_progress.Goals as goal

pub returns : goal.returns
unfolding progress_records core_of
returns c =
    let id = c.args.id.0 in
    let core = c.args.core.now in
    let reserved = reserved_record id core.state.reserved in
    let ended = ended_record id (outcome_of core.ended) in
    let first = CoreIs id core.n core.state.pc (phase_of core.phase) ∷ [] in
    let t0 = map record_of c.args.records.now in
    let t1 = map record_of c.add.new.records in
    let t2 = map record_of c.add_reserved.new.records in
    let t3 = map record_of c.add_ended.new.records in
    on_ok_weaker c.add_ended.result
    (λ last. then first (reserved ++ ended) t0 t1 t3 (rw c.pc-pc.ensures at c.in_ok-add.ensures)
    (then reserved ended t1 t2 t3 (rw c.reserved.ensures at c.in_ok-add_reserved.ensures) last))
    c.add_ended.ensures
