use Rattle.std.proofs.Common.{◌∙◌, ap, not}
use Rattle.spec_cache.proofs.Looks.{within, whole, lowest-none, free_found, free_next, free_none, is_free}
use Rattle.spec_cache.proofs.ways.Ways.free_way.Goals as goal

pub loop-way-init : goal.loop-way-init
loop-way-init g c = lowest-none (λ y. is_free (g.Self.Ways.held c.args.self.now) c.args.set y)

pub returns-then-is_none-clause-value : goal.returns-then-is_none-clause-value
returns-then-is_none-clause-value g c = free_found (g.Self.Ways.held c.args.self.now) c.args.set c.loop-way.way _ c.way.result
    (within c.loop-way.way _ _ _ c.ways-ways.ensures.value c.config.ensures.value c.loop-way-test.true) c.place_of_way.ensures.value
    c.way.ensures.value (ap not c.is_none.ensures ∙ ap (λ x. not (not x)) c.if-is_none.true) c.loop-way.invariant

pub loop-way-preserved : goal.loop-way-preserved
loop-way-preserved g c = free_next (g.Self.Ways.held c.args.self.now) c.args.set c.loop-way.way _ c.way.result
    (within c.loop-way.way _ _ _ c.ways-ways.ensures.value c.config.ensures.value c.loop-way-test.true) c.place_of_way.ensures.value
    c.way.ensures.value (ap not c.is_none.ensures ∙ ap (λ x. not (not x)) c.if-is_none.false) c.loop-way.invariant

pub returns-clause-value : goal.returns-clause-value
returns-clause-value g c = free_none (g.Self.Ways.held c.args.self.now) c.args.set c.loop-way.way
    (whole c.loop-way.way _ _ _ c.ways-ways.ensures.value c.config.ensures.value c.loop-way-test.false c.loop-way.auto.way-end)
    c.loop-way.invariant
