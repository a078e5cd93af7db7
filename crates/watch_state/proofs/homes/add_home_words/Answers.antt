use Rattle.std.proofs.Common.{map}
use Rattle.image_load.specs.Contents.{started}
use Rattle.image_load.specs.Start.{first_ram}
use Rattle.directory.specs.Data.{dir_of}
use Rattle.watch_state.specs.Directories.{at_home, word_records}
use Rattle.watch_state.specs.Plain.{record_of}
use Rattle.watch_state.proofs.Growing.{piece-more}
use Rattle.watch_state.proofs.homes.add_home_words.Goals as goal

pub loop-line-preserved : goal.loop-line-preserved
loop-line-preserved c = λ e.
    let sh = c.args.code.now.settings in
    let words = word_records sh (first_ram (started c.args.code.now)) (dir_of e c.args.dir.now).words in
    piece-more (at_home sh c.args.id.0 words) c.loop-line.line
    (map record_of c.args.records.now) (map record_of c.loop-line.records) (map record_of c.add_words_at_home.new.records)
    (c.loop-line.invariant e)
    (c.in_ok-add_words_at_home.ensures e)
