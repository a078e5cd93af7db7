-- From the last commit on: the first that has the TID.
use Rattle.std.proofs.Common.{sym, arith}
use Rattle.watch_core.proofs.Named.{found-here, none-of_none, not-here}
use Rattle.watch_core.proofs.commits.commit_of.Goals as goal

pub loop-left-init : goal.loop-left-init
loop-left-init c = (omega arith, none-of_none c.args.tid.0 c.args.commits.now)

pub returns-then-commit-tid : goal.returns-then-commit-tid
returns-then-commit-tid c =
    sym (found-here c.args.tid.0 c.args.commits.now c.loop-left.left c.index-commits-left.result c.loop-left-test.true
    (record { inside = omega (arith, c.loop-left.invariant.0, c.loop-left-test.true); is = c.index-commits-left.is })
    c.if-commit-tid.true c.loop-left.invariant.1)

pub loop-left-preserved : goal.loop-left-preserved
loop-left-preserved c = (
  omega (arith, c.loop-left.invariant.0),
  not-here c.args.tid.0 c.args.commits.now c.loop-left.left c.index-commits-left.result c.loop-left-test.true
      (record { inside = omega (arith, c.loop-left.invariant.0, c.loop-left-test.true); is = c.index-commits-left.is })
      c.if-commit-tid.false c.loop-left.invariant.1,
)
