-- What has the message of that number stands from low on, and the piece at high reaches the number.
use Rattle.std.proofs.Common.{◌-◌}
use Rattle.machine_links.proofs.Passing.{Between}
use Rattle.machine_links.proofs.rest.piece_of.Given as goal

abbrev pub invariant-loop-low : goal.invariant-loop-low
invariant-loop-low l = Between l.pieces l.seq l.low l.high

abbrev pub decreases-loop-low : goal.decreases-loop-low
decreases-loop-low l = l.high - l.low
