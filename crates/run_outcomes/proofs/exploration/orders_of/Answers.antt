use Rattle.std.proofs.Common.{◌≤◌, ◌<◌, length, refl, arith}
use Rattle.std.proofs.lemmas.List.{drop_all}
use Rattle.run_outcomes.proofs.Paths.{orders-step}
use Rattle.run_outcomes.specs.Ways.{orders_from}
use Rattle.run_outcomes.proofs.exploration.orders_of.Goals as goal

pub loop-k-init : goal.loop-k-init
unfolding orders_from
loop-k-init c =
    let all : length c.args.back.now ≤ length c.args.back.now = omega arith in
    (rw (c.new-orders.ensures, drop_all (length c.args.back.now) c.args.back.now all) refl, all)

pub loop-k-preserved : goal.loop-k-preserved
loop-k-preserved c =
    let positive : 0 < c.loop-k.k = grind arith in (
      rw c.in_ok-push.ensures
          (orders-step c.args.back.now c.loop-k.orders c.loop-k.k positive c.loop-k.invariant.1 c.loop-k.invariant.0),
      grind arith,
    )
