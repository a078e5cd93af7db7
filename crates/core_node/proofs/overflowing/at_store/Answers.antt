use Rattle.std.proofs.Common.{true, refl, ap, ◌∙◌, sym}
use Rattle.tcc_base.specs.Settings.{Settings}
use Rattle.rules_maps.specs.CacheLook.{look_store}
use Rattle.spec_cache.specs.Held.{maps}
use Rattle.spec_cache.specs.Look.{look_of}
use Rattle.core_node.specs.AtHand.{store_overflows}
use Rattle.core_node.specs.View.{core_of}
use Rattle.core_node.proofs.Overflows.{full_store}
use Rattle.core_node.proofs.overflowing.at_store.Goals as goal

pub returns-then-holds : goal.returns-then-holds
unfolding core_of store_overflows
returns-then-holds c = rw (sym c.holds.ensures ∙ c.if-holds.true) refl

pub returns-else-holds : goal.returns-else-holds
unfolding core_of
returns-else-holds c =
    let k = c.args.core.now in
    full_store k.config c.args.w.0 (core_of k) c.is_full_of_marks.result (look_of c.look_store.result) (sym c.holds.ensures
    ∙ c.if-holds.false)
    c.is_full_of_marks.ensures
    (c.look_store.ensures ∙ ap (λ (s : Settings). look_store s c.args.w.0 true (maps k.cache)) c.requires.cache)
