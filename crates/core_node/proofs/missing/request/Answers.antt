use Rattle.std.proofs.Common.{◌≡◌, ap, sym, subst, ◌∙◌}
use Rattle.rules_maps.specs.Shape.{Shape}
use Rattle.rules_tcc.specs.State.{CoreState}
use Rattle.rules_tcc.specs.Attempt.{Out}
use Rattle.rules_tcc.specs.Execute.{request_line, place}
use Rattle.spec_cache.specs.Held.{maps}
use Rattle.core_node.specs.View.{core_of, Did}
use Rattle.core_node.proofs.Placed.{placed_held}
use Rattle.core_node.proofs.MissedLines.{way_free, fetched_held, fetched_placed}
use Rattle.core_node.proofs.missing.request.Goals as goal

pub ask-requires-else-has_frame-clause-held : goal.ask-requires-else-has_frame-clause-held
unfolding core_of place
ask-requires-else-has_frame-clause-held c =
    let k = c.args.core.now in
    let free = way_free k.config c.args.line.0 (core_of k) (sym c.has_frame.ensures ∙ c.if-has_frame.false) c.requires.found in
    ap (λ (s : CoreState). s.cache.held c.args.line.0) c.place.ensures.does ∙ placed_held k.config c.args.line.0 (maps k.cache) free

pub returns-then-has_frame-clause-does : goal.returns-then-has_frame-clause-does
unfolding core_of
returns-then-has_frame-clause-does c =
    let k = c.args.core.now in
    rw (fetched_held k.config c.args.line.0 (core_of k) (sym c.has_frame.ensures ∙ c.if-has_frame.true)) c.ask.ensures.does

pub returns-else-has_frame-clause-does : goal.returns-else-has_frame-clause-does
unfolding core_of
returns-else-has_frame-clause-does c =
    let k = c.args.core.now in
    let l = c.args.line.0 in
    let absent = sym c.has_frame.ensures ∙ c.if-has_frame.false in
    let free = way_free k.config l (core_of k) absent c.requires.found in
    let same : request_line c.place.new.core.config l (core_of c.place.new.core) ≡ request_line k.config l (place k.config l (core_of k)) =
    ap (λ (sh : Shape). request_line sh l (core_of c.place.new.core)) c.place.ensures.stays.config
    ∙ ap (request_line k.config l) c.place.ensures.does in
    rw (fetched_placed k.config l (core_of k) absent free)
    (subst (λ (o : Out). Did o 1 c.args.out.now c.ask-else-has_frame.new.core c.ask-else-has_frame.new.out)
    same c.ask-else-has_frame.ensures.does)
