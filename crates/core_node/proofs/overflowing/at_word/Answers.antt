use Rattle.std.proofs.Common.{refl, ap, ◌∙◌}
use Rattle.tcc_base.specs.Settings.{Settings}
use Rattle.rules_maps.specs.CacheLook.{look_load}
use Rattle.spec_cache.specs.Held.{maps}
use Rattle.spec_cache.specs.Look.{look_of}
use Rattle.core_node.specs.AtHand.{word_overflows}
use Rattle.core_node.specs.View.{core_of}
use Rattle.core_node.proofs.Overflows.{full_word}
use Rattle.core_node.proofs.overflowing.at_word.Goals as goal

pub returns-in-Some : goal.returns-in-Some
unfolding core_of word_overflows
returns-in-Some c = rw (← c.in-Some.ensures) refl

pub returns-in-None : goal.returns-in-None
unfolding core_of
returns-in-None c =
    let k = c.args.core.now in
    full_word k.config c.args.w.0 (core_of k) c.is_full_of_marks.result (look_of c.look_load.result) c.in-None.ensures
    c.is_full_of_marks.ensures
    (c.look_load.ensures.answer ∙ ap (λ (s : Settings). look_load s c.args.w.0 (maps k.cache)) c.requires.cache)
