use Rattle.std.proofs.Common.{true, refl, ap, ◌∙◌, sym}
use Rattle.tcc_base.specs.Settings.{Settings}
use Rattle.rules_maps.specs.CacheLook.{look_store}
use Rattle.rules_tcc.specs.Useful.{room_for_store}
use Rattle.spec_cache.specs.Held.{maps}
use Rattle.spec_cache.specs.Look.{look_of}
use Rattle.core_node.specs.View.{core_of}
use Rattle.core_node.proofs.Rooms.{room_store}
use Rattle.core_node.proofs.waiting.room_at_store.Goals as goal

pub returns-then-holds : goal.returns-then-holds
unfolding core_of room_for_store
returns-then-holds c = rw (sym c.holds.ensures ∙ c.if-holds.true) refl

pub returns-else-holds : goal.returns-else-holds
unfolding core_of
returns-else-holds c =
    let k = c.args.core.now in
    room_store k.config c.args.w.0 (core_of k) c.room_of.result (look_of c.look_store.result) c.is_alone.result (sym c.holds.ensures
    ∙ c.if-holds.false) c.room_of.ensures
    (c.look_store.ensures ∙ ap (λ (s : Settings). look_store s c.args.w.0 true (maps k.cache)) c.requires.cache) c.is_alone.ensures
