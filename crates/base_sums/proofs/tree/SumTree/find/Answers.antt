-- Block by block.
use Rattle.std.proofs.Common.{◌*◌, ◌∙◌, ap, arith, sum, subst, sym}
use Rattle.base_sums.proofs.Falling.{falls-in, from-start, in-block}
use Rattle.base_sums.proofs.Summed.{all-blocks}
use Rattle.base_sums.specs.Blocks.{AreBlocks}
use Rattle.base_sums.specs.Falls.{FallsAt}
use Rattle.base_sums.proofs.tree.SumTree.find.Goals as goal

pub fall_in_sums-top-requires : goal.fall_in_sums-top-requires
fall_in_sums-top-requires c =
    let i = c.self.invariant in
    let first = all-blocks c.self.inside.counts.items c.self.inside.sums.items i.blocks in
    let second = all-blocks c.self.inside.sums.items c.self.inside.tops.items i.upper in
    let same = ap (λ l. sum l) c.deref.ensures.value in
    let total = i.whole in
    let below = c.if-k-self.false in
    omega (arith, first, second, same, total, below)

pub fall_in_sums-block-requires : goal.fall_in_sums-block-requires
fall_in_sums-block-requires c =
    let sums = c.deref-2.ensures.value in
    let tops = c.deref.ensures.value in
    in-block c.deref-2.result.now c.deref.result.now 0 c.args.k c.fall_in_sums-top.result.0 c.fall_in_sums-top.result.1
    (subst (λ l. AreBlocks l c.deref.result.now) (sym sums) (subst (λ l. AreBlocks c.self.inside.sums.items l) (sym tops)
    c.self.invariant.upper)) c.fall_in_sums-top.ensures

pub fall_in_counts-requires : goal.fall_in_counts-requires
fall_in_counts-requires c =
    let counts = c.deref-3.ensures.value in
    let sums = c.deref-2.ensures.value in
    in-block c.deref-3.result.now c.deref-2.result.now (16 * c.fall_in_sums-top.result.0) c.fall_in_sums-top.result.1
    c.fall_in_sums-block.result.0 c.fall_in_sums-block.result.1
    (subst (λ l. AreBlocks l c.deref-2.result.now) (sym counts) (subst (λ l. AreBlocks c.self.inside.counts.items l) (sym sums)
    c.self.invariant.blocks)) c.fall_in_sums-block.ensures

pub returns-clause-falls : goal.returns-clause-falls
returns-clause-falls c =
    let tops = c.deref.ensures.value in
    let sums = c.deref-2.ensures.value in
    let counts = c.deref-3.ensures.value in
    let upper = subst (λ l. AreBlocks l c.deref.result.now) (sym sums) (subst (λ l. AreBlocks c.self.inside.sums.items l) (sym tops)
    c.self.invariant.upper) in
    let blocks = subst (λ l. AreBlocks l c.deref-2.result.now) (sym counts) (subst (λ l. AreBlocks c.self.inside.counts.items l) (sym sums)
    c.self.invariant.blocks) in
    let top = from-start c.deref.result.now c.args.k _ _ c.fall_in_sums-top.ensures in
    let block = falls-in c.deref-2.result.now c.deref.result.now c.args.k _ _ _ _ upper top c.fall_in_sums-block.ensures in
    let place = falls-in c.deref-3.result.now c.deref-2.result.now c.args.k _ _ _ _ blocks block c.fall_in_counts.ensures in
    subst (λ l. FallsAt l c.args.k c.fall_in_counts.result.0 c.fall_in_counts.result.1) (counts ∙ c.self.view_is) place
