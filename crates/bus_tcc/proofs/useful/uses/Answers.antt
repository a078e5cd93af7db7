-- A core that waits for the bus takes it once it is free, and waits for no room.
use Rattle.std.proofs.Common.{true, false}
use Rattle.rules_tcc.specs.State.{AwaitTid}
use Rattle.bus_tcc.proofs.Using.{at-phase, no-ways}
use Rattle.bus_tcc.proofs.useful.uses.Goals as goal

pub returns-in-AwaitTid-clause-free : goal.returns-in-AwaitTid-clause-free
returns-in-AwaitTid-clause-free c = at-phase _ _ true _ _ AwaitTid c.in-AwaitTid.ensures

pub returns-in-AwaitTid-clause-taken : goal.returns-in-AwaitTid-clause-taken
returns-in-AwaitTid-clause-taken c = λ h. at-phase _ _ false _ _ AwaitTid c.in-AwaitTid.ensures

pub returns-in-AwaitTid-clause-ways : goal.returns-in-AwaitTid-clause-ways
returns-in-AwaitTid-clause-ways c = no-ways _ _ _ c.in-AwaitTid.ensures
