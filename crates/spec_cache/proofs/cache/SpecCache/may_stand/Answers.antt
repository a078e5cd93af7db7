use Rattle.std.proofs.Common.{sym, ◌∙◌}
use Rattle.spec_cache.proofs.Standing.{may_stand, is_missing}
use Rattle.spec_cache.proofs.cache.SpecCache.may_stand.Goals as goal

pub returns-then-not-is_missing : goal.returns-then-not-is_missing
returns-then-not-is_missing c = (
  λ e. absurd (cc),
  λ m. sym c.if-not-is_missing.true ∙ c.is_missing.ensures.missing.1
      (is_missing c.args.self.now c.is_missing.ensures.in_order c.args.set c.args.way c.args.frame.now m),
)

pub returns : goal.returns
returns c = (
  λ e. may_stand c.args.self.now c.is_missing.ensures.in_order c.args.set c.args.way c.args.frame.now
      (c.is_free.ensures.0 c.if-not-is_free.false) (c.is_missing.ensures.missing.0 c.if-not-is_missing.false) (c.is_frame.ensures.0 e),
  λ m. c.is_frame.ensures.1 m.fits.frame,
)
