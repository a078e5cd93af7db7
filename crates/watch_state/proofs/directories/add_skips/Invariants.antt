-- The records of the TIDs so far are there.
use Rattle.std.proofs.Common.{◌≡◌, ◌++◌, ℕ, map}
use Rattle.std.specs.List.{flat_map}
use Rattle.rules_tcc.specs.Seen.{numbers}
use Rattle.directory.specs.Data.{dir_of}
use Rattle.watch_state.specs.Directories.{skipped_record}
use Rattle.watch_state.specs.Plain.{record_of}
use Rattle.watch_state.proofs.directories.add_skips.Given as goal

abbrev pub invariant-loop-k : goal.invariant-loop-k
invariant-loop-k l =
    (elsewhere : ℕ → ℕ) → map record_of l.records
    ≡ map record_of l.fn.records ++ flat_map (skipped_record l.id.0 (dir_of elsewhere l.dir).serving) (numbers l.k)
