-- The directory, and behind it the TIDs.
use Rattle.std.proofs.Common.{[], ◌∷◌, length, map}
use Rattle.std.specs.List.{flat_map}
use Rattle.rules_tcc.specs.Seen.{numbers}
use Rattle.directory.specs.Data.{dir_of}
use Rattle.watch_state.specs.Directories.{serving_records, skipped_record}
use Rattle.watch_state.specs.Plain.{record_of}
use Rattle.watch_state.specs.Records.{DirectoryIs}
use Rattle.watch_state.proofs.Growing.{then}
use Rattle.watch_state.proofs.directories.add_serving.Goals as goal

pub returns : goal.returns
unfolding serving_records
returns c = λ e.
    let id = c.args.id.0 in
    let d = dir_of e c.args.dir.now in
    then (DirectoryIs id d.serving.serving d.owed ∷ []) (flat_map (skipped_record id d.serving) (numbers (length d.serving.skips)))
    (map record_of c.args.records.now) (map record_of c.add.new.records) (map record_of c.add_skips.new.records)
    (rw (c.serving-serving.ensures e, c.owed-owed.ensures e) at c.in_ok-add.ensures) (c.in_ok-add_skips.ensures e)
