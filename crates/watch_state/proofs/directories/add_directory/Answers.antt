-- The directory with its skips, its lines and its words.
use Rattle.std.proofs.Common.{◌++◌, map}
use Rattle.std.specs.List.{flat_map}
use Rattle.image_load.specs.Contents.{started}
use Rattle.image_load.specs.Start.{first_ram}
use Rattle.rules_maps.specs.Shape.{lines}
use Rattle.rules_tcc.specs.Seen.{numbers}
use Rattle.directory.specs.Data.{dir_of}
use Rattle.watch_state.specs.Directories.{at_home, directory_part, directory_records, line_record, serving_records, word_records}
use Rattle.watch_state.specs.Plain.{record_of}
use Rattle.watch_state.proofs.Growing.{then}
use Rattle.watch_state.proofs.directories.add_directory.Goals as goal

pub returns : goal.returns
unfolding directory_records directory_part
returns c = λ e.
    let id = c.args.id.0 in
    let sh = c.args.code.now.settings in
    let d = dir_of e c.args.dir.now in
    let known = flat_map (at_home sh id (line_record sh d.lines)) (numbers (lines sh)) in
    let words = flat_map (at_home sh id (word_records sh (first_ram (started c.args.code.now)) d.words)) (numbers (lines sh)) in
    let t0 = map record_of c.args.records.now in
    let t1 = map record_of c.add_serving.new.records in
    let t2 = map record_of c.add_lines.new.records in
    let t3 = map record_of c.add_home_words.new.records in
    then (serving_records id d) (known ++ words) t0 t1 t3 (c.in_ok-add_serving.ensures e)
    (then known words t1 t2 t3 (rw c.config.ensures at (c.in_ok-add_lines.ensures e)) (c.in_ok-add_home_words.ensures e))
