-- What the words so far picked was taken.
use Rattle.bus_tool.proofs.Picked.{Going}
use Rattle.bus_tool.proofs.running.take_picked.Given as goal

abbrev pub invariant-loop : goal.invariant-loop
invariant-loop l = Going l.fn.bus l.bus l.fn.words l.words l.steps l.counter
