-- A core that is alone executes or commits.
use Rattle.std.proofs.Common.{true, false, subst}
use Rattle.bus_tcc.specs.Inside.{machine_of}
use Rattle.bus_tcc.specs.Whole.{IsBusWhole}
use Rattle.bus_tcc.proofs.ByPhase.{alone-executes, alone-goes_on, alone-may, alone-publishes, ends-so}
use Rattle.bus_tcc.proofs.engine.Engine.exec_alone.Goals as goal

pub publish-requires-clause-may : goal.publish-requires-clause-may
publish-requires-clause-may c =
    alone-may c.args.self.now c.args.core.0 (subst IsBusWhole c.self.view_is c.self.invariant) c.requires.exists c.requires.alone
    (ends-so (machine_of c.self.inside) c.args.self.now c.args.core.0 c.ends.result true c.self.view_is c.ends.ensures c.if-ends.true)

pub publish-requires-clause-commits : goal.publish-requires-clause-commits
publish-requires-clause-commits c =
    alone-publishes c.args.self.now c.args.core.0 c.requires.exists c.requires.alone
    (ends-so (machine_of c.self.inside) c.args.self.now c.args.core.0 c.ends.result true c.self.view_is c.ends.ensures c.if-ends.true)

pub execute-requires-clause-executes : goal.execute-requires-clause-executes
execute-requires-clause-executes c = alone-executes c.args.self.now c.args.core.0 c.requires.alone

pub execute-requires-clause-goes_on : goal.execute-requires-clause-goes_on
execute-requires-clause-goes_on c =
    alone-goes_on c.args.self.now c.args.core.0 c.requires.exists c.requires.alone
    (ends-so (machine_of c.self.inside) c.args.self.now c.args.core.0 c.ends.result false c.self.view_is c.ends.ensures c.if-ends.false)
