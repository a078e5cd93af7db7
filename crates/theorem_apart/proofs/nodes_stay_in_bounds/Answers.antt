use Rattle.theorem_apart.proofs.Stays.{nodes_stay}
use Rattle.theorem_apart.proofs.nodes_stay_in_bounds.Goals as goal

pub returns : goal.returns
returns c = record { stays = nodes_stay }
