-- The part of the list that the number falls into.
use Rattle.std.proofs.Common.{arith}
use Rattle.bus_tcc.proofs.Choices.{at-evicts, at-execs, at-takes}
use Rattle.bus_tcc.proofs.engine.Engine.useful_number.Goals as goal

pub returns-then-k-execs : goal.returns-then-k-execs
returns-then-k-execs c = at-execs c.args.self.now c.args.k c.exec_total-execs.ensures.whole _ c.exec_at.ensures (omega arith)

pub returns-then-k-execs-2 : goal.returns-then-k-execs-2
returns-then-k-execs-2 c =
    at-evicts c.args.self.now c.args.k c.exec_total-execs.ensures.whole _ _ c.evict_at.ensures (omega arith) (omega arith)

pub returns : goal.returns
returns c = at-takes c.args.self.now c.args.k c.exec_total-execs.ensures.whole _ _ c.take_at.ensures (omega arith)
