-- The sum of three counts, which is that of the useful events, and small.
use Rattle.std.proofs.Common.{refl, arith}
use Rattle.net_core.proofs.Useful.Listed.{Tells, counts-tell}
use Rattle.net_core.proofs.system.System.useful_count.Goals as goal

tells : (c : goal.After-ready_count) → Tells c.args.self.now c.exec_total.result c.evict_total.result c.ready_count.result
tells c =
    counts-tell _ c.args.self.now _ _ _ c.self.invariant c.self.view_is c.requires c.exec_total.ensures c.evict_total.ensures
    c.ready_count.ensures.count

pub overflow_add-result : goal.overflow_add-result
overflow_add-result c =
    let few =
    counts-tell _ c.args.self.now _ _ _ c.self.invariant c.self.view_is c.requires c.exec_total.ensures c.evict_total.ensures refl in
    omega (arith, few.execs, few.evicts)

pub overflow_add-result-2 : goal.overflow_add-result-2
overflow_add-result-2 c = omega (arith, (tells c).execs, (tells c).evicts, c.ready_count.ensures.few)

pub returns : goal.returns
returns c = (tells c).all
