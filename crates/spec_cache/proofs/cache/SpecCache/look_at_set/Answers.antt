use Rattle.std.proofs.Common.{◌≡◌, ◌∙◌, ◌+◌, ◌*◌, get_or, None, sym, ap, refl, arith}
use Rattle.tcc_base.specs.Settings.{Settings}
use Rattle.spec_cache.specs.Useful.{useful_in, wants_of}
use Rattle.spec_cache.proofs.Counted.{count_below-zero}
use Rattle.spec_cache.proofs.Counts.{counted_more, counted_same}
use Rattle.spec_cache.proofs.UsefulSets.{set_whole}
use Rattle.spec_cache.proofs.cache.SpecCache.look_at_set.Goals.{then-finds, else-finds}
use Rattle.spec_cache.proofs.cache.SpecCache.look_at_set.Goals as goal

pub loop-way-init : goal.loop-way-init
loop-way-init c = record { counted = sym (count_below-zero _); most = omega arith }

pub loop-way-preserved : goal.loop-way-preserved
loop-way-preserved c =
    let test : useful_in (wants_of c.args.wants) c.args.set
    (get_or c.self.inside.frames.frames (c.args.set * c.ways-ways.result + c.loop-way.way) None) ≡ c.finds.result =
    rw (c.finds.ensures, c.way.ensures.value) refl in
    elim c.if-finds.branch [
      | then-finds w ↦ record {
        counted = counted_more _ c.loop-way.way c.loop-way.count c.loop-way.invariant.counted _ w.count-is
            (test ∙ w.if-finds.true);
        most = omega (arith, w.count-is, c.loop-way.invariant.most);
      }
      | else-finds w ↦ record {
        counted = counted_same _ c.loop-way.way c.loop-way.count c.loop-way.invariant.counted _ w.count-is
            (test ∙ w.if-finds.false);
        most = omega (arith, w.count-is, c.loop-way.invariant.most);
      }
    ]

pub returns-clause-few : goal.returns-clause-few
returns-clause-few c =
    omega (
      arith,
      c.loop-way.invariant.most,
      c.loop-way-test.false,
      c.loop-way.auto.way-end,
      c.ways-ways.ensures.value,
      c.ways-ways.ensures.allowed.3.1,
    )

pub returns-clause-number : goal.returns-clause-number
returns-clause-number c =
    rw (sym c.self.view_is) (set_whole (useful_in (wants_of c.args.wants) c.args.set) c.self.inside.frames c.args.set c.loop-way.count
    c.ways-ways.result c.loop-way.way
    (c.ways-ways.ensures.value ∙ ap (λ (x : Settings). x.ways) c.config.ensures.value)
    (omega (arith, c.loop-way-test.false, c.loop-way.auto.way-end)) c.loop-way.invariant.counted)
