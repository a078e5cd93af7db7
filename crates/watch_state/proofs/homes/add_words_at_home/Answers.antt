-- The line is at home here, or elsewhere.
use Rattle.std.proofs.Common.{◌++◌, ap, map, sym, ◌∙◌, rules}
use Rattle.image_load.specs.Contents.{started}
use Rattle.image_load.specs.Start.{first_ram}
use Rattle.tcc_base.specs.Settings.{Settings}
use Rattle.rules_maps.specs.Shape.{home}
use Rattle.directory.specs.Data.{dir_of}
use Rattle.watch_state.specs.Directories.{word_records}
use Rattle.watch_state.specs.Plain.{record_of}
use Rattle.watch_state.proofs.ShownLines.{elsewhere-at-home, here-at-home}
use Rattle.watch_state.proofs.homes.add_words_at_home.Goals as goal

pub returns-in_ok-add_words : goal.returns-in_ok-add_words
returns-in_ok-add_words c = λ e.
    let sh = c.args.code.now.settings in
    let l = c.args.line.0 in
    let words = word_records sh (first_ram (started c.args.code.now)) (dir_of e c.args.dir.now).words in
    c.in_ok-add_words.ensures e
    ∙ ap (λ rs. map record_of c.args.records.now ++ rs)
    (sym (here-at-home sh c.args.id.0 l words
    (c.if-id-home.true ∙ c.home-home.ensures.value ∙ ap (λ (s : Settings). home s l) c.config.ensures)))

pub returns-else-id-home : goal.returns-else-id-home
returns-else-id-home c = λ e.
    let sh = c.args.code.now.settings in
    let l = c.args.line.0 in
    let words = word_records sh (first_ram (started c.args.code.now)) (dir_of e c.args.dir.now).words in
    rw (elsewhere-at-home sh c.args.id.0 l words
    (λ q. c.if-id-home.false (q ∙ sym (c.home-home.ensures.value ∙ ap (λ (s : Settings). home s l) c.config.ensures))))
    (search rules)
