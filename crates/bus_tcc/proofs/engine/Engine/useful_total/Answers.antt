-- The sum of three counts, which are small.
use Rattle.std.proofs.Common.{refl, arith}
use Rattle.bus_tcc.proofs.Choices.{AreFew, are-few}
use Rattle.bus_tcc.proofs.engine.Engine.useful_total.Goals as goal

tells : (c : goal.After-take_total) → AreFew c.args.self.now c.exec_total.result c.evict_total.result c.take_total.result
tells c =
    are-few c.args.self.now _ _ _ c.exec_total.ensures.whole c.exec_total.ensures.count c.evict_total.ensures c.take_total.ensures

pub overflow_add-result : goal.overflow_add-result
overflow_add-result c =
    let k = are-few c.args.self.now _ _ _ c.exec_total.ensures.whole c.exec_total.ensures.count c.evict_total.ensures refl in
    omega (arith, k.execs, k.evicts)

pub overflow_add-result-2 : goal.overflow_add-result-2
overflow_add-result-2 c = omega (arith, (tells c).execs, (tells c).evicts, (tells c).takes)

pub returns : goal.returns
returns c = (tells c).all
