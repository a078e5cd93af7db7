use Rattle.theorem_phases.proofs.Serial.Growing.{phases_grow}
use Rattle.theorem_phases.proofs.phases_grow.Goals as goal

pub returns : goal.returns
returns c = record { grow = phases_grow }
