use Rattle.std.proofs.Common.{◌≡◌, ◌∙◌, ap, arith}
use Rattle.tcc_base.specs.Settings.{Settings}
use Rattle.spec_cache.specs.Useful.{wants_of}
use Rattle.spec_cache.proofs.UsefulSets.{fewer_left, nth_way, block-done}
use Rattle.spec_cache.proofs.cache.SpecCache.nth_in_sets.Goals as goal

pub returns-then-left-here : goal.returns-then-left-here
returns-then-left-here c =
    let sets : c.sets.result ≡ c.args.self.now.config.sets =
    rw c.self.view_is at (c.sets.ensures.value ∙ ap (λ (x : Settings). x.sets) c.config.ensures.value) in
    nth_way c.args.self.now (rw c.self.view_is at c.config.ensures.in_order) (wants_of c.args.wants) c.loop-set.set c.nth_in_set.result
    _ c.loop-set.left
    (omega (arith, sets, c.loop-set-test.true, c.end_of-end.ensures.inside)) c.loop-set.invariant c.nth_in_set.ensures

pub loop-set-preserved : goal.loop-set-preserved
loop-set-preserved c =
    fewer_left c.args.self.now (rw c.self.view_is at c.config.ensures.in_order) (wants_of c.args.wants) c.loop-set.set _
    c.loop-set.left c.useful_in_set-here.result
    c.loop-set.invariant c.useful_in_set-here.ensures.number c.if-left-here.false

pub returns : goal.returns
returns c =
    let sets : c.sets.result ≡ c.args.self.now.config.sets =
    rw c.self.view_is at (c.sets.ensures.value ∙ ap (λ (x : Settings). x.sets) c.config.ensures.value) in
    let e = block-done c.args.self.now (rw c.self.view_is at c.config.ensures.in_order) (wants_of c.args.wants) c.args.block c.loop-set.set
    c.sets.result c.end_of-end.result sets c.end_of-end.ensures.end
    (omega (arith, c.loop-set-test.false, c.loop-set.auto.set-end, c.end_of-end.ensures.later)) in
    omega (arith, e, c.loop-set.invariant)
