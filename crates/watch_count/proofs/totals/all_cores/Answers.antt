-- The next core is added.
use Rattle.std.proofs.Common.{◌≤◌, ◌^◌, get_or, map, ap, ◌∙◌, arith, refl}
use Rattle.std.proofs.lemmas.Grind.{common_steps}
use Rattle.watch_count.specs.KeptCores.{nothing_kept, numbers_after}
use Rattle.watch_count.specs.Totals.{core_plus, cores_after, all_cores}
use Rattle.watch_count.specs.Sizes.{attempts_size, instructions_size, accesses_size, evictions_size, phases_size, core_size}
use Rattle.watch_count.proofs.Adding.{core-adds, cores-more}
use Rattle.watch_count.proofs.Lists.{map-at}
use Rattle.watch_count.proofs.totals.all_cores.Goals as goal

pub loop-core-init : goal.loop-core-init
unfolding attempts_size instructions_size accesses_size evictions_size phases_size
loop-core-init c = rw c.nothing-total.ensures (record { total = refl; small = omega arith })

pub numbers-requires : goal.numbers-requires
numbers-requires c =
    let one = map-at (λ x. core_size x ≤ 2 ^ 56) (numbers_after c.args.events) c.args.cores.now c.loop-core.core-index nothing_kept
    c.requires.small c.loop-core-test.true in
    omega (arith, one)

pub add_core-requires : goal.add_core-requires
add_core-requires c =
    let one = map-at (λ x. core_size x ≤ 2 ^ 56) (numbers_after c.args.events) c.args.cores.now c.loop-core.core-index nothing_kept
    c.requires.small c.loop-core-test.true in
    let size = ap core_size c.numbers.ensures in
    omega (arith, one, size, c.loop-core.invariant.small, c.loop-core-test.true, c.requires.few)

pub loop-core-preserved : goal.loop-core-preserved
loop-core-preserved c =
    let i = c.loop-core.core-index in
    let f = numbers_after c.args.events in
    let ks = c.args.cores.now in
    let adds = core-adds c.loop-core.total (f (get_or ks i nothing_kept)) in
    let one = map-at (λ x. core_size x ≤ 2 ^ 56) f ks i nothing_kept c.requires.small c.loop-core-test.true in
    let now = c.add_core.ensures ∙ ap (core_plus c.loop-core.total) c.numbers.ensures in
    record {
      total = cores-more f ks i nothing_kept c.loop-core.total c.add_core.new.to (all_cores (map f ks)) c.loop-core-test.true now
          c.loop-core.invariant.total;
      small = rw now (omega (arith, adds, one, c.loop-core.invariant.small));
    }

pub returns : goal.returns
unfolding cores_after
returns c = grind (arith, common_steps)
