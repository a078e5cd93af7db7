use Rattle.std.proofs.Common.{refl, ap, ◌∙◌}
use Rattle.tcc_base.specs.Settings.{Settings}
use Rattle.rules_maps.specs.CacheLook.{look_load}
use Rattle.rules_tcc.specs.Useful.{room_for_word}
use Rattle.spec_cache.specs.Held.{maps}
use Rattle.spec_cache.specs.Look.{look_of}
use Rattle.core_node.specs.View.{core_of}
use Rattle.core_node.proofs.Rooms.{room_word}
use Rattle.core_node.proofs.waiting.room_at_word.Goals as goal

pub returns-in-Some : goal.returns-in-Some
unfolding core_of room_for_word
returns-in-Some c = rw (← c.in-Some.ensures) refl

pub returns-in-None : goal.returns-in-None
unfolding core_of
returns-in-None c =
    let k = c.args.core.now in
    room_word k.config c.args.w.0 (core_of k) c.room_of.result
    (look_of c.look_load.result) c.is_alone.result c.in-None.ensures c.room_of.ensures
    (c.look_load.ensures.answer ∙ ap (λ (s : Settings). look_load s c.args.w.0 (maps k.cache)) c.requires.cache) c.is_alone.ensures
