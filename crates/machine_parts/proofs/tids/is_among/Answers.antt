-- One after another.
use Rattle.std.proofs.Common.{◌≡◌, refl, arith}
use Rattle.std.specs.Prelude.{slice_index_or}
use Rattle.machine_parts.proofs.Below.{below-more, below-none}
use Rattle.machine_parts.proofs.Noted.{none-among, some-among}
use Rattle.machine_parts.proofs.tids.is_among.Goals as goal

pub loop-own-init : goal.loop-own-init
loop-own-init c = below-none (λ j. slice_index_or c.args.held.now j 0 ≡ c.args.tid → ⊥)

pub returns-then-own-tid : goal.returns-then-own-tid
returns-then-own-tid c =
    (λ t. some-among c.args.tid c.args.held.now c.loop-own.own-index c.loop-own-test.true c.if-own-tid.true, λ more. refl)

pub loop-own-preserved : goal.loop-own-preserved
loop-own-preserved c =
    below-more c.loop-own.own-index (λ j. slice_index_or c.args.held.now j 0 ≡ c.args.tid → ⊥) c.loop-own.invariant c.if-own-tid.false

pub returns : goal.returns
returns c = (
  λ t. absurd (cc),
  λ more.
      let none = none-among c.args.tid c.args.held.now (λ j l. c.loop-own.invariant j (omega (arith, l, c.loop-own-test.false))) in
      absurd (omega (arith, more, none)),
)
