-- What was taken so far.
use Rattle.apart_node.specs.Moves.{Takes}
use Rattle.apart_node.proofs.port.Port.gather.Given as goal

abbrev pub invariant-loop : goal.invariant-loop
invariant-loop g l = Takes l.initial.self l.self
