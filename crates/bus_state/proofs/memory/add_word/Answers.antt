-- The word as it is, and as it was loaded.
use Rattle.std.proofs.Common.{◌+◌, ◌*◌, ◌++◌, ◌∙◌, ap, arith, map, sym}
use Rattle.std.proofs.lemmas.Result.{on_ok_weaker}
use Rattle.image_load.specs.Contents.{started}
use Rattle.image_load.specs.Start.{first_ram}
use Rattle.bus_tcc.specs.Machine.{bus_settings_of, bus_start_of, bus_world_of}
use Rattle.watch_state.proofs.Lemmas.{first-is}
use Rattle.bus_state.specs.Plain.{bus_record_of}
use Rattle.bus_state.proofs.Changed.{word-shown}
use Rattle.bus_state.proofs.memory.add_word.Goals as goal

pub returns : goal.returns
unfolding started
returns c =
    let m = c.args.system.now in
    let w = c.args.word.0 in
    on_ok_weaker c.add_changed.result
    (λ last. last ∙ ap (λ rs. map bus_record_of c.args.records.now ++ rs)
    (word-shown (bus_settings_of m) (first_ram (bus_start_of m)) (bus_world_of m).ram w (c.base.result + 4 * w) c.word.result
    c.word-first.result
    (ap (λ b. b + 4 * w) (c.base.ensures.value ∙ ap (λ t. t.base) c.config.ensures)) c.word.ensures
    (sym (first-is (bus_start_of m) w c.word-first.result c.requires (c.word-first.ensures ∙ ap (λ k. (started k).word w) c.code.ensures)
    (omega (arith, c.word-first.type_inv))))))
    c.add_changed.ensures
