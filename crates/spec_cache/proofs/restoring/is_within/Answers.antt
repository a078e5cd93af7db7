use Rattle.std.proofs.Common.{◌∙◌, sym}
use Rattle.std.proofs.lemmas.Bool.{eqb-true, eq-eqb}
use Rattle.spec_cache.proofs.Standing.{all-within, within-all}
use Rattle.spec_cache.proofs.restoring.is_within.Goals as goal

pub returns : goal.returns
returns c = (
  λ e. all-within c.args.mask c.args.other (sym c.without.ensures ∙ eqb-true _ _ e),
  λ w. eq-eqb _ _ (c.without.ensures ∙ within-all c.args.mask c.args.other c.ranges.mask.fits w),
)
