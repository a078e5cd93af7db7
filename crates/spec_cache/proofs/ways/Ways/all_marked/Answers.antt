use Rattle.std.proofs.Common.{◌∙◌, sym}
use Rattle.spec_cache.proofs.Looks.{within, whole, all_below-none, marked_not, marked_next, marked_all, marked_way}
use Rattle.spec_cache.proofs.ways.Ways.all_marked.Goals as goal

pub loop-way-init : goal.loop-way-init
loop-way-init g c = all_below-none (λ y. marked_way (g.Self.Ways.held c.args.self.now) c.args.set y)

pub returns-then-not-is_marked : goal.returns-then-not-is_marked
returns-then-not-is_marked g c = marked_not (g.Self.Ways.held c.args.self.now) c.args.set c.loop-way.way _ c.way.result
    (within c.loop-way.way _ _ _ c.ways-ways.ensures.value c.config.ensures.value c.loop-way-test.true) c.place_of_way.ensures.value
    c.way.ensures.value c.way.ensures.in_order (sym c.is_marked.ensures ∙ c.if-not-is_marked.true)

pub loop-way-preserved : goal.loop-way-preserved
loop-way-preserved g c = marked_next (g.Self.Ways.held c.args.self.now) c.args.set c.loop-way.way _ c.way.result
    (within c.loop-way.way _ _ _ c.ways-ways.ensures.value c.config.ensures.value c.loop-way-test.true) c.place_of_way.ensures.value
    c.way.ensures.value c.way.ensures.in_order (sym c.is_marked.ensures ∙ c.if-not-is_marked.false) c.loop-way.invariant

pub returns : goal.returns
returns g c = marked_all (g.Self.Ways.held c.args.self.now) c.args.set c.loop-way.way
    (whole c.loop-way.way _ _ _ c.ways-ways.ensures.value c.config.ensures.value c.loop-way-test.false c.loop-way.auto.way-end)
    c.loop-way.invariant
