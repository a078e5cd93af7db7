use Rattle.std.proofs.Common.{◌≤◌, ◌^◌, arith}
use Rattle.std.proofs.lemmas.Grind.{common_steps}
use Rattle.std.proofs.lemmas.List.{drop_more}
use Rattle.watch_count.specs.KeptCores.{nothing_kept, numbers_after}
use Rattle.watch_count.specs.Sizes.{core_size}
use Rattle.watch_count.specs.Text.{rows_from}
use Rattle.watch_count.proofs.Lists.{map-at}
use Rattle.watch_count.proofs.texts.push_rows.Goals as goal

pub numbers-requires : goal.numbers-requires
numbers-requires c =
    let one = map-at (λ x. core_size x ≤ 2 ^ 56) (numbers_after c.args.events) c.args.cores.now c.loop-number.number nothing_kept
    c.requires c.loop-number-test.true in
    omega (arith, one)

pub loop-number-preserved : goal.loop-number-preserved
unfolding rows_from
loop-number-preserved c = grind (arith, common_steps, drop_more)

pub returns : goal.returns
unfolding rows_from
returns c = grind (arith, common_steps)
