use Rattle.std.proofs.Common.{true, refl, sym, ap, ◌∙◌}
use Rattle.tcc_base.specs.Settings.{Settings}
use Rattle.rules_maps.specs.CacheLook.{look_store}
use Rattle.spec_cache.specs.Held.{maps}
use Rattle.spec_cache.specs.Look.{look_of}
use Rattle.core_node.specs.AtHand.{is_whole, word_fills}
use Rattle.core_node.specs.View.{core_of}
use Rattle.core_node.proofs.Lined.{way-fills, whole-fills}
use Rattle.core_node.proofs.at_hand.fills.Goals as goal

pub returns-in-Some : goal.returns-in-Some
unfolding core_of word_fills
returns-in-Some c = rw (← c.in-Some.ensures) refl

pub returns-then-is_whole : goal.returns-then-is_whole
unfolding core_of
returns-then-is_whole c =
    let k = c.args.core.now in
    whole-fills k.config c.args.w.0 (core_of k) c.in_default.ensures
    (ap (λ l. is_whole l (maps k.cache)) (sym c.line_of_word.ensures) ∙ sym c.is_whole.ensures ∙ c.if-is_whole.true)

pub returns : goal.returns
unfolding core_of
returns c =
    let k = c.args.core.now in
    way-fills k.config c.args.w.0 (core_of k) c.has_way.result (look_of c.look_store.result) c.in_default.ensures
    (ap (λ l. is_whole l (maps k.cache)) (sym c.line_of_word.ensures) ∙ sym c.is_whole.ensures ∙ c.if-is_whole.false) c.has_way.ensures
    (c.look_store.ensures ∙ ap (λ (s : Settings). look_store s c.args.w.0 true (maps k.cache)) c.requires.cache)
