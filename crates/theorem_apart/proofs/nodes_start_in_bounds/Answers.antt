use Rattle.theorem_apart.proofs.Starts.{nodes_start}
use Rattle.theorem_apart.proofs.nodes_start_in_bounds.Goals as goal

pub returns : goal.returns
returns c = record { starts = nodes_start }
