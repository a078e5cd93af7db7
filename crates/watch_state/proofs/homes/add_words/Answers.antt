use Rattle.std.proofs.Common.{◌≡◌, arith, map}
use Rattle.image_load.specs.Contents.{started}
use Rattle.image_load.specs.Start.{first_ram}
use Rattle.rules_maps.specs.Words.{word_at}
use Rattle.directory.specs.Data.{dir_of}
use Rattle.watch_state.specs.Directories.{word_record, word_records}
use Rattle.watch_state.specs.Plain.{record_of}
use Rattle.watch_state.proofs.Growing.{piece-more}
use Rattle.watch_state.proofs.homes.add_words.Goals as goal

pub loop-k-preserved : goal.loop-k-preserved
loop-k-preserved c = λ e.
    let sh = c.args.code.now.settings in
    let words = (dir_of e c.args.dir.now).words in
    piece-more
    (λ k. word_record sh (first_ram (started c.args.code.now)) words (word_at c.args.line.0 k))
    c.loop-k.k (map record_of c.args.records.now) (map record_of c.loop-k.records) (map record_of c.add_word.new.records)
    (c.loop-k.invariant e)
    (c.in_ok-add_word.ensures e)

pub returns : goal.returns
unfolding word_records
returns c = λ e.
    let all : c.loop-k.k ≡ 8 = omega (arith, c.loop-k-test.false) in
    rw all at (c.loop-k.invariant e)
