-- The records of the directories so far are there.
use Rattle.std.proofs.Common.{◌≡◌, ◌++◌, map}
use Rattle.std.specs.List.{flat_map}
use Rattle.rules_tcc.specs.Seen.{numbers}
use Rattle.commit_engine.specs.Engine.{after_of}
use Rattle.watch_state.specs.Cores.{committed_record}
use Rattle.watch_state.specs.Plain.{record_of}
use Rattle.watch_state.proofs.attempts.add_all_committed.Given as goal

abbrev pub invariant-loop-dir : goal.invariant-loop-dir
invariant-loop-dir l =
    map record_of l.records
    ≡ map record_of l.fn.records ++ flat_map (committed_record l.core.0 (after_of l.after)) (numbers l.dir)
