use Rattle.std.proofs.Common.{◌∙◌, ◌*◌, ap}
use Rattle.spec_cache.specs.Held.{maps}
use Rattle.spec_cache.proofs.Forms.{maps-empty}
use Rattle.spec_cache.proofs.Consistent.{IsCache-maps}
use Rattle.spec_cache.proofs.cache.SpecCache.new.Goals as goal

pub returns-clause-empty : goal.returns-clause-empty
returns-clause-empty c = ap maps c.in_ok-new.ensures.empty ∙ maps-empty c.args.cfg.now (c.args.cfg.now.sets * c.args.cfg.now.ways)

pub returns-clause-consistent : goal.returns-clause-consistent
returns-clause-consistent c = IsCache-maps c.in_ok-new.field-0 c.in_ok-new.ensures.in_order
