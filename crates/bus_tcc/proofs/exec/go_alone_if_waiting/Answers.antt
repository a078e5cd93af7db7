-- A core that waits goes alone.
use Rattle.rules_bus.specs.Exec.{gone_alone}
use Rattle.bus_tcc.proofs.exec.go_alone_if_waiting.Goals as goal

pub returns-then-alone-clause-does : goal.returns-then-alone-clause-does
unfolding gone_alone
returns-then-alone-clause-does c = rw c.if-alone.true c.go_alone.ensures.does
