use Rattle.theorem_serial.proofs.Run.AllCarried.{start_has_all}
use Rattle.theorem_serial.proofs.the_start_has_all_invariants.Goals as goal

pub returns : goal.returns
returns c = record { start = start_has_all }
