-- What is left of the pieces has the message.
use Rattle.std.proofs.Common.{◌≡◌, drop}
use Rattle.std.specs.Prelude.{slice_get}
use Rattle.machine_links.specs.Pieces.{flat}
use Rattle.machine_links.proofs.rest.nth.Given as goal

abbrev pub invariant-loop-at : goal.invariant-loop-at
invariant-loop-at l = slice_get (flat (drop l.at l.pieces)) l.left ≡ slice_get (flat l.pieces) l.i
