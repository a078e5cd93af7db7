use Rattle.std.proofs.Common.{◌≡◌, ◌∙◌, ◌-◌, ◌%◌, ap, arith}
use Rattle.base_lemmas.proofs.Lemmas.{power-positive}
use Rattle.spec_cache.proofs.PowerLaws.{mod-mask}
use Rattle.spec_cache.proofs.quotients.set_of.Goals as goal

pub overflow_sub-mask : goal.overflow_sub-mask
overflow_sub-mask c = let p = power-positive _ c.sets.ensures.allowed.2.0 in omega (arith, p, c.sets.ensures.value)

pub returns : goal.returns
returns c = rw c.sets.ensures.value (mod-mask c.args.line c.args.config.now.sets c.sets.ensures.allowed.2.0)
