-- One after another.
use Rattle.std.proofs.Common.{◌<◌, arith}
use Rattle.machine_parts.proofs.Below.{below-more, below-none}
use Rattle.machine_parts.proofs.Noted.{At, at-item, commits-over, commits-single}
use Rattle.machine_parts.proofs.tids.are_granted.Goals as goal

pub loop-commit-init : goal.loop-commit-init
loop-commit-init c = below-none (At c.args.commits.now (λ x. x.tid.0 < c.args.next.0))

pub loop-commit-preserved : goal.loop-commit-preserved
loop-commit-preserved c =
    below-more c.loop-commit.commit-index (At c.args.commits.now (λ x. x.tid.0 < c.args.next.0)) c.loop-commit.invariant
    (at-item c.args.commits.now (λ x. x.tid.0 < c.args.next.0) c.loop-commit.commit-index c.commit-item.result c.commit-item.is
    c.if-commit-next.false)

pub returns-then-commit-next-clause-refused : goal.returns-then-commit-next-clause-refused
returns-then-commit-next-clause-refused c = λ e.
    commits-over c.args.commits.now c.args.next.0 c.loop-commit.commit-index c.commit-item.result c.loop-commit-test.true c.commit-item.is
    c.if-commit-next.true

pub returns-clause-granted : goal.returns-clause-granted
returns-clause-granted c = λ t. commits-single c.args.commits.now c.args.next.0 c.requires
    (λ j l. c.loop-commit.invariant j (omega (arith, l, c.loop-commit-test.false)))
