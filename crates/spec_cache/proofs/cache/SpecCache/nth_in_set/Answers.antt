use Rattle.std.proofs.Common.{◌≡◌, ◌<◌, ◌∙◌, ◌+◌, ◌*◌, ℕ, Bool, get_or, None, sym, ap, refl, arith}
use Rattle.tcc_base.specs.Settings.{Settings}
use Rattle.rules_maps.specs.Words.{count_below}
use Rattle.spec_cache.specs.PerSet.{count_set}
use Rattle.spec_cache.specs.Useful.{useful_in, wants_of}
use Rattle.spec_cache.proofs.Counted.{count_below-zero}
use Rattle.spec_cache.proofs.Counts.{counted_more, counted_same}
use Rattle.spec_cache.proofs.UsefulSets.{set_whole}
use Rattle.spec_cache.proofs.cache.SpecCache.nth_in_set.Goals.{then-finds+else-left-eq0, else-finds}
use Rattle.spec_cache.proofs.cache.SpecCache.nth_in_set.Goals as goal

pub loop-way-init : goal.loop-way-init
loop-way-init c = ap (λ x. x + c.args.left) (count_below-zero _) ∙ omega arith

pub loop-way-preserved : goal.loop-way-preserved
loop-way-preserved c =
    let p : ℕ
    → Bool =
    λ y. useful_in (wants_of c.args.wants) c.args.set (get_or c.self.inside.frames.frames (c.args.set * c.ways-ways.result + y) None) in
    let test : p c.loop-way.way ≡ c.finds.result = rw (c.finds.ensures, c.way.ensures.value) refl in
    elim c.if-finds.branch [
      | then-finds+else-left-eq0 w
          ↦ (let m = counted_more p c.loop-way.way (count_below p c.loop-way.way) refl (count_below p c.loop-way.way + 1) refl
          (test ∙ w.if-finds.true) in
          ap (λ x. x + c.if-finds.left) (sym m) ∙ omega (arith, w.left-is, w.if-left-eq0.false, c.loop-way.invariant))
      | else-finds w ↦ (let m = counted_same p c.loop-way.way (count_below p c.loop-way.way) refl (count_below p c.loop-way.way) refl
          (test ∙ w.if-finds.false) in
          ap (λ x. x + c.if-finds.left) (sym m) ∙ omega (arith, w.left-is, c.loop-way.invariant))
    ]

pub unreachable-requires : goal.unreachable-requires
unreachable-requires c =
    let all = set_whole (useful_in (wants_of c.args.wants) c.args.set) c.self.inside.frames c.args.set _ c.ways-ways.result c.loop-way.way
    (c.ways-ways.ensures.value ∙ ap (λ (x : Settings). x.ways) c.config.ensures.value)
    (omega (arith, c.loop-way-test.false, c.loop-way.auto.way-end)) refl in
    let more : c.args.left < count_set (useful_in (wants_of c.args.wants) c.args.set) c.self.inside.frames c.args.set =
    rw (sym c.self.view_is) at c.requires.more in
    omega (arith, all, more, c.loop-way.invariant)
