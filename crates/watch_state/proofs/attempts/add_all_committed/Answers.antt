use Rattle.std.proofs.Common.{map}
use Rattle.commit_engine.specs.Engine.{after_of}
use Rattle.watch_state.specs.Cores.{committed_record}
use Rattle.watch_state.specs.Plain.{record_of}
use Rattle.watch_state.proofs.Growing.{piece-more}
use Rattle.watch_state.proofs.attempts.add_all_committed.Goals as goal

pub loop-dir-preserved : goal.loop-dir-preserved
loop-dir-preserved c =
    piece-more (committed_record c.args.core.0 (after_of c.args.after.now)) c.loop-dir.dir (map record_of c.args.records.now)
    (map record_of c.loop-dir.records) (map record_of c.add_committed.new.records) c.loop-dir.invariant c.in_ok-add_committed.ensures
