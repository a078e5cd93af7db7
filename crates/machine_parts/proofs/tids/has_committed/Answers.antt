-- One after another.
use Rattle.std.proofs.Common.{◌≡◌, ◌≢◌, refl, arith}
use Rattle.machine_parts.proofs.Below.{below-more, below-none}
use Rattle.machine_parts.proofs.Noted.{At, at-item, none-committed, some-committed}
use Rattle.machine_parts.proofs.tids.has_committed.Goals as goal

pub loop-commit-init : goal.loop-commit-init
loop-commit-init c = below-none (At c.args.commits.now (λ x. x.tid.0 ≢ c.args.tid.0))

pub returns-then-commit-tid : goal.returns-then-commit-tid
returns-then-commit-tid c = (
  λ t. some-committed c.args.tid.0 c.args.commits.now c.loop-commit.commit-index c.loop-commit-test.true
      (at-item c.args.commits.now (λ x. x.tid.0 ≡ c.args.tid.0) c.loop-commit.commit-index c.commit-item.result c.commit-item.is
      c.if-commit-tid.true),
  λ more. refl,
)

pub loop-commit-preserved : goal.loop-commit-preserved
loop-commit-preserved c =
    below-more c.loop-commit.commit-index (At c.args.commits.now (λ x. x.tid.0 ≢ c.args.tid.0)) c.loop-commit.invariant
    (at-item c.args.commits.now (λ x. x.tid.0 ≢ c.args.tid.0) c.loop-commit.commit-index c.commit-item.result c.commit-item.is
    c.if-commit-tid.false)

pub returns : goal.returns
returns c = (
  λ t. absurd (cc),
  λ more.
      let none = none-committed c.args.tid.0 c.args.commits.now
      (λ j l. c.loop-commit.invariant j (omega (arith, l, c.loop-commit-test.false))) in
      absurd (omega (arith, more, none)),
)
