-- The first so many messages stand on their links.
use Rattle.std.proofs.Common.{◌-◌, length}
use Rattle.net_core.proofs.Links.Placing.{Placed}
use Rattle.net_core.proofs.placing.place_all.Given as goal

abbrev pub invariant-loop-placed : goal.invariant-loop-placed
invariant-loop-placed l = Placed l.dirs l.fn.sender l.out.list.items l.initial.placed l.placed l.initial.flights l.flights

abbrev pub decreases-loop-placed : goal.decreases-loop-placed
decreases-loop-placed l = length l.out.list.items - l.placed
