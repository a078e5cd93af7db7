-- Whether a mask holds a place.
use Rattle.std.proofs.Common.{arith}
use Rattle.std.proofs.lemmas.Nat.Bits.{shr_and_one}
use Rattle.std.proofs.lemmas.Bool.Decides.{nat_tests}
use Rattle.rules_maps.specs.Masks.{has}
use Rattle.bus_tcc.proofs.storing.holds.Goals as goal

pub returns : goal.returns
unfolding has
returns c = rw shr_and_one (grind (arith, nat_tests))
