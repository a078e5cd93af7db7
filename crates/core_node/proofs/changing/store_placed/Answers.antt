use Rattle.std.proofs.Common.{ℕ, false, refl, ap, ◌∙◌}
use Rattle.rules_maps.specs.Cache.{Cache}
use Rattle.rules_maps.specs.CacheChange.{stored}
use Rattle.rules_maps.specs.Words.{line_of}
use Rattle.rules_tcc.specs.State.{CoreState}
use Rattle.rules_tcc.specs.Execute.{stored_in_frame, place}
use Rattle.spec_cache.specs.Held.{maps}
use Rattle.core_node.specs.View.{core_of}
use Rattle.core_node.proofs.Cores.{whole_cache}
use Rattle.core_node.proofs.Placed.{placed_held}
use Rattle.core_node.proofs.changing.store_placed.Goals as goal

pub store-requires : goal.store-requires
unfolding core_of place
store-requires c =
    let k = c.args.core.now in
    let l = line_of c.args.w.0 in
    ap (λ (s : CoreState). s.cache.held l) (c.place.ensures.does ∙ ap (λ (x : ℕ). place k.config x (core_of k)) c.line_of_word.ensures)
    ∙ placed_held k.config l (maps k.cache) c.requires.free

pub returns-clause-does : goal.returns-clause-does
unfolding core_of stored_in_frame
returns-clause-does c =
    let k = c.args.core.now in
    ap (λ (m : Cache). record (core_of c.place.new.core) { cache = m }) c.store.ensures.maps
    ∙ ap (stored_in_frame c.args.w.0 c.args.value false)
    (c.place.ensures.does ∙ ap (λ (x : ℕ). place k.config x (core_of k)) c.line_of_word.ensures)

pub returns-clause-stays : goal.returns-clause-stays
unfolding stored
returns-clause-stays c = record {
  config = c.place.ensures.stays.config;
  id = c.place.ensures.stays.id;
  whole = whole_cache c.place.new.core c.store.new.self c.place.ensures.stays.whole c.store.ensures.config (rw c.store.ensures.maps refl);
}
