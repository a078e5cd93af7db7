use Rattle.std.proofs.Common.{ap, sym, ◌∙◌}
use Rattle.rules_maps.specs.CacheChange.{filled}
use Rattle.rules_tcc.specs.Execute.{place}
use Rattle.rules_tcc.specs.State.{CoreState}
use Rattle.spec_cache.specs.Held.{maps}
use Rattle.core_node.specs.AtHand.{lined}
use Rattle.core_node.specs.View.{core_of}
use Rattle.core_node.proofs.MissedLines.{way_free}
use Rattle.core_node.proofs.Placed.{placed_held}
use Rattle.core_node.proofs.at_hand.fill_frame.Goals as goal

pub fill_held-requires-else-has_frame-clause-held : goal.fill_held-requires-else-has_frame-clause-held
unfolding core_of place
fill_held-requires-else-has_frame-clause-held c =
    let k = c.args.core.now in
    let free = way_free k.config c.args.line.0 (core_of k) (sym c.has_frame.ensures ∙ c.if-has_frame.false) c.requires.found in
    ap (λ (s : CoreState). s.cache.held c.args.line.0) c.place.ensures.does ∙ placed_held k.config c.args.line.0 (maps k.cache) free

pub returns-then-has_frame-clause-does : goal.returns-then-has_frame-clause-does
unfolding core_of lined
returns-then-has_frame-clause-does c = rw (sym c.has_frame.ensures ∙ c.if-has_frame.true) c.fill_held.ensures.does

pub returns-else-has_frame-clause-does : goal.returns-else-has_frame-clause-does
unfolding core_of lined place
returns-else-has_frame-clause-does c =
    rw (sym c.has_frame.ensures ∙ c.if-has_frame.false)
    (c.fill_held-else-has_frame.ensures.does
    ∙ ap (λ (s : CoreState). record s { cache = filled c.args.line.0 c.args.words.now s.cache }) c.place.ensures.does)
