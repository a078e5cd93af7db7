use Rattle.theorem_phases.proofs.Events.Staying.{halts_stay, requests_stay}
use Rattle.theorem_phases.proofs.halts_and_requests_stay.Goals as goal

pub returns : goal.returns
returns c = record { halts = halts_stay; requests = requests_stay }
