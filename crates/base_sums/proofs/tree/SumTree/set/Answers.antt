-- A new count changes the sum of its block, the sum of that block's block, and the total.
use Rattle.std.proofs.Common.{◌<◌, ◌/◌, ◌∙◌, arith, length, subst, sym}
use Rattle.base_sums.proofs.Summed.{changed-sums, place-changes, read-at}
use Rattle.base_sums.proofs.tree.SumTree.set.Goals as goal

pub overflow_sub-index : goal.overflow_sub-index
overflow_sub-index c =
    let there = subst (λ l. c.args.place < length l) (sym c.self.view_is) c.requires in
    let h = place-changes _ _ _ _ c.args.place c.args.count c.self.invariant there (omega (arith, c.ranges.count.fits)) in
    let was = c.from-was.ensures ∙ c.index.ensures ∙ read-at c.self.inside.counts.items c.args.place c.index.result.now there in
    let is = c.from-is.ensures in
    let sum = c.index-2.ensures ∙ read-at c.self.inside.sums.items (c.args.place / 16) c.index-2.result.now h.block in
    omega (arith, h.in_sum, was, sum)

pub overflow_add-index : goal.overflow_add-index
overflow_add-index c =
    let there = subst (λ l. c.args.place < length l) (sym c.self.view_is) c.requires in
    let h = place-changes _ _ _ _ c.args.place c.args.count c.self.invariant there (omega (arith, c.ranges.count.fits)) in
    let was = c.from-was.ensures ∙ c.index.ensures ∙ read-at c.self.inside.counts.items c.args.place c.index.result.now there in
    let is = c.from-is.ensures in
    let sum = c.index-2.ensures ∙ read-at c.self.inside.sums.items (c.args.place / 16) c.index-2.result.now h.block in
    omega (arith, h.sum_fits, h.in_sum, was, is, sum)

pub overflow_sub-index-2 : goal.overflow_sub-index-2
overflow_sub-index-2 c =
    let there = subst (λ l. c.args.place < length l) (sym c.self.view_is) c.requires in
    let h = place-changes _ _ _ _ c.args.place c.args.count c.self.invariant there (omega (arith, c.ranges.count.fits)) in
    let was = c.from-was.ensures ∙ c.index.ensures ∙ read-at c.self.inside.counts.items c.args.place c.index.result.now there in
    let is = c.from-is.ensures in
    let top = c.index-3.ensures ∙ read-at c.self.inside.tops.items (c.args.place / 16 / 16) c.index-3.result.now h.top in
    omega (arith, h.in_top, was, top)

pub overflow_add-index-2 : goal.overflow_add-index-2
overflow_add-index-2 c =
    let there = subst (λ l. c.args.place < length l) (sym c.self.view_is) c.requires in
    let h = place-changes _ _ _ _ c.args.place c.args.count c.self.invariant there (omega (arith, c.ranges.count.fits)) in
    let was = c.from-was.ensures ∙ c.index.ensures ∙ read-at c.self.inside.counts.items c.args.place c.index.result.now there in
    let is = c.from-is.ensures in
    let top = c.index-3.ensures ∙ read-at c.self.inside.tops.items (c.args.place / 16 / 16) c.index-3.result.now h.top in
    omega (arith, h.top_fits, h.in_top, was, is, top)

pub overflow_add-self : goal.overflow_add-self
overflow_add-self c =
    let there = subst (λ l. c.args.place < length l) (sym c.self.view_is) c.requires in
    let h = place-changes _ _ _ _ c.args.place c.args.count c.self.invariant there (omega (arith, c.ranges.count.fits)) in
    let was = c.from-was.ensures ∙ c.index.ensures ∙ read-at c.self.inside.counts.items c.args.place c.index.result.now there in
    let is = c.from-is.ensures in
    omega (arith, h.total_fits, h.in_total, was, is)

pub invariant_of-self : goal.invariant_of-self
invariant_of-self c =
    let there = subst (λ l. c.args.place < length l) (sym c.self.view_is) c.requires in
    let h = place-changes _ _ _ _ c.args.place c.args.count c.self.invariant there (omega (arith, c.ranges.count.fits)) in
    let was = c.from-was.ensures ∙ c.index.ensures ∙ read-at c.self.inside.counts.items c.args.place c.index.result.now there in
    let is = c.from-is.ensures in
    let sum = c.index-2.ensures ∙ read-at c.self.inside.sums.items (c.args.place / 16) c.index-2.result.now h.block in
    let top = c.index-3.ensures ∙ read-at c.self.inside.tops.items (c.args.place / 16 / 16) c.index-3.result.now h.top in
    let w = c.from-was.result in
    let changed = changed-sums _ _ _ _ c.args.place w c.args.count c.self.invariant there was (omega (arith, c.ranges.count.fits)) in
    rw (sum, top, is) changed
