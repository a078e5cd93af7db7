-- The word as it is, and as it was loaded.
use Rattle.std.proofs.Common.{◌+◌, ◌*◌, ◌++◌, ◌∙◌, ap, arith, map, sym}
use Rattle.image_load.specs.Contents.{started}
use Rattle.image_load.specs.Start.{first_ram}
use Rattle.directory.specs.Data.{dir_of}
use Rattle.watch_state.specs.Plain.{record_of}
use Rattle.watch_state.proofs.ShownLines.{first-is, word-shown}
use Rattle.watch_state.proofs.homes.add_word.Goals as goal

pub returns : goal.returns
unfolding started
returns c = λ e.
    let s = started c.args.code.now in
    let w = c.args.word.0 in
    c.in_ok-add_changed.ensures
    ∙ ap (λ rs. map record_of c.args.records.now ++ rs)
    (word-shown c.args.code.now.settings (first_ram s) (dir_of e c.args.dir.now).words w
    (c.base.result + 4 * w) c.word.result c.word-2.result
    (ap (λ b. b + 4 * w) (c.base.ensures.value ∙ ap (λ t. t.base) c.config.ensures)) (c.word.ensures e)
    (sym (first-is s w c.word-2.result c.requires.exists c.word-2.ensures (omega (arith, c.word-2.type_inv)))))
