-- Messages were taken, and the tally is right.
use Rattle.apart_node.specs.Moves.{AtEach, Takes}
use Rattle.apart_node.specs.Tally.{IsTallied}
use Rattle.apart_node.proofs.room.gather_rung.Given as goal

abbrev pub invariant-loop : goal.invariant-loop
invariant-loop g l = AtEach Takes l.fn.ports l.ports × IsTallied l.ports l.tally
