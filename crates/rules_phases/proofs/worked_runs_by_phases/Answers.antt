use Rattle.rules_phases.proofs.Worked.{goes_on, stays_in_phase, in_phase_one, held_back, both_halt}
use Rattle.rules_phases.proofs.worked_runs_by_phases.Goals as goal

pub returns : goal.returns
returns c = record { goes_on = goes_on; stays = stays_in_phase; asks = in_phase_one; held = held_back; whole = both_halt }
