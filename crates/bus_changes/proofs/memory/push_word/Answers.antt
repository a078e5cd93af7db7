-- The word as it was, as it is, and as it was loaded.
use Rattle.std.proofs.Common.{◌+◌, ◌*◌, ◌++◌, ◌∙◌, ap, arith, refl, string_bytes, sym}
use Rattle.std.proofs.lemmas.Result.{on_ok_weaker}
use Rattle.image_load.specs.Contents.{started}
use Rattle.image_load.specs.Start.{first_ram}
use Rattle.bus_tcc.specs.Machine.{bus_settings_of, bus_start_of, bus_world_of, word_in}
use Rattle.watch_state.proofs.Lemmas.{first-is}
use Rattle.bus_changes.specs.Changes.{bus_change_lines}
use Rattle.bus_changes.proofs.Words.{word-told}
use Rattle.bus_changes.proofs.memory.push_word.Goals as goal

pub returns : goal.returns
unfolding started
returns c =
    let m = c.args.system.now in
    let w = c.args.word.0 in
    on_ok_weaker c.push_value.result
    (λ last. last ∙ ap (λ cs. string_bytes c.args.text.now ++ bus_change_lines cs)
    (word-told (bus_settings_of m) (first_ram (bus_start_of m)) (word_in c.args.was.now) (bus_world_of m).ram w (c.base.result + 4 * w)
    _ c.word.result c.word-first.result
    (ap (λ b. b + 4 * w) (c.base.ensures.value ∙ ap (λ t. t.base) c.config.ensures)) refl c.word.ensures
    (sym (first-is (bus_start_of m) w c.word-first.result c.requires.exists
    (c.word-first.ensures ∙ ap (λ k. (started k).word w) c.code.ensures) (omega (arith, c.word-first.type_inv))))))
    c.push_value.ensures
