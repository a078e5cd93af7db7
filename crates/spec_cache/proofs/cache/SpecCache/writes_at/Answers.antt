use Rattle.std.proofs.Common.{◌∙◌, sym, ap, not, nat_eq}
use Rattle.spec_cache.proofs.Counts.{writes-count}
use Rattle.spec_cache.proofs.cache.SpecCache.writes_at.Goals as goal

pub returns : goal.returns
returns c = ap (λ n. not (nat_eq n 0)) c.write_count.ensures ∙ sym (writes-count c.args.self.now c.args.d.0)
