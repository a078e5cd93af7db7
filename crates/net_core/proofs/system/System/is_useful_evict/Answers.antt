-- Each number gives the next useful eviction.
use Rattle.std.proofs.Common.{◌∙◌, sym, arith}
use Rattle.net_core.proofs.Useful.Evictions.{absent-useless, found-useful, more-absent}
use Rattle.net_core.proofs.system.System.is_useful_evict.Goals as goal

pub loop-k-preserved : goal.loop-k-preserved
loop-k-preserved c =
    more-absent _ c.args.self.now c.args.core.0 c.args.set c.args.way c.loop-k.k _ c.is_evict.result c.self.view_is c.evict_at.ensures
    c.is_evict.ensures c.if-is_evict.false c.loop-k.invariant

pub returns-then-is_evict : goal.returns-then-is_evict
returns-then-is_evict c =
    found-useful _ c.args.self.now c.self.invariant c.self.view_is c.requires c.args.core.0 c.args.set c.args.way c.loop-k.k
    (sym c.evict_at.ensures ∙ c.is_evict.ensures.0 c.if-is_evict.true)

pub returns : goal.returns
returns c =
    absent-useless _ c.args.self.now c.self.invariant c.self.view_is c.requires c.args.core.0 c.args.set c.args.way c.loop-k.k
    (omega (arith, c.evict_total-k-end.ensures, c.loop-k-test.false, c.loop-k.auto.k-end)) c.loop-k.invariant
