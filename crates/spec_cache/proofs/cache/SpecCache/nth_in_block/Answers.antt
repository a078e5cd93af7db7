use Rattle.std.proofs.Common.{refl, arith}
use Rattle.spec_cache.specs.Useful.{wants_of}
use Rattle.spec_cache.proofs.UsefulSets.{plain-block}
use Rattle.spec_cache.proofs.cache.SpecCache.nth_in_block.Goals as goal

pub returns-then-here-left : goal.returns-then-here-left
returns-then-here-left c =
    let h = c.args.self.now in
    let e = plain-block h (rw c.self.view_is at c.useful_in_block-here.ensures.in_order) (wants_of c.args.wants) c.args.block
    (λ t d. rw c.requires.line at (c.if-not-touches_block.ensures refl t d)) c.useful_in_block-here.result
    (rw c.self.view_is at c.useful_in_block-here.ensures.number) in
    omega (arith, e, c.if-here-left.true)
