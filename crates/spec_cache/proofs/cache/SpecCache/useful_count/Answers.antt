use Rattle.spec_cache.specs.Useful.{wants_of}
use Rattle.spec_cache.proofs.UsefulCount.{plain-all}
use Rattle.spec_cache.proofs.cache.SpecCache.useful_count.Goals as goal

pub returns-then-is_plain : goal.returns-then-is_plain
returns-then-is_plain c =
    plain-all c.args.self.now (rw c.self.view_is at c.useful_ways.ensures.in_order) (wants_of c.args.wants)
    (c.is_plain.ensures.line c.if-is_plain.true) (c.is_plain.ensures.room c.if-is_plain.true) c.useful_ways.result
    (rw c.self.view_is at c.useful_ways.ensures.number)
