use Rattle.std.proofs.Common.{◌≡◌, ◌+◌, ◌-◌, ◌<◌, ◌≤◌, length, arith}
use Rattle.machine_commits.proofs.Places.{stands-among_all, stands-among_fewer, stands-first, stands-behind}
use Rattle.machine_commits.proofs.list.place_for.Goals as goal

pub loop-at-init : goal.loop-at-init
loop-at-init c = record {
  within = omega arith;
  among = λ d e. stands-among_all (length c.args.commits.now) d c.args.commits.now (omega arith);
}

pub loop-at-preserved : goal.loop-at-preserved
loop-at-preserved c =
    let one : c.loop-at.at ≡ c.loop-at.at - 1 + 1 = omega arith in
    let larger : c.args.tid.0 < c.index-commits-at.result.tid.0 = rw c.index-commits-at.is c.if-tid-commits.true in
    record {
      within = omega arith;
      among = λ d e.
          stands-among_fewer (c.loop-at.at - 1) d c.index-commits-at.result c.args.commits.now (omega arith) c.index-commits-at.is
          (rw e larger)
          (rw (← one) (c.loop-at.invariant.among d e));
    }

pub returns-after-loop-at-clause-place : goal.returns-after-loop-at-clause-place
returns-after-loop-at-clause-place c = λ d e.
    let none : c.loop-at.at ≡ 0 = omega arith in
    rw none (stands-first d c.args.commits.now (rw none at (c.loop-at.invariant.among d e)))

pub returns-else-tid-commits-clause-place : goal.returns-else-tid-commits-clause-place
returns-else-tid-commits-clause-place c = λ d e.
    let one : c.loop-at.at ≡ c.loop-at.at - 1 + 1 = omega arith in
    let no_larger : c.index-commits-at.result.tid.0 ≤ d.tid.0 = rw (e, c.index-commits-at.is) c.if-tid-commits.false in
    rw one (stands-behind (c.loop-at.at - 1) d c.index-commits-at.result c.args.commits.now c.requires (omega arith)
    c.index-commits-at.is no_larger
    (rw (← one) (c.loop-at.invariant.among d e)))
