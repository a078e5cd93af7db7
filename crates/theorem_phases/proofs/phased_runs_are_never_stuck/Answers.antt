use Rattle.theorem_phases.proofs.Running.Stuck.{phased_never_stuck, phased_picked_ends_done}
use Rattle.theorem_phases.proofs.phased_runs_are_never_stuck.Goals as goal

pub returns : goal.returns
returns c = record { done = phased_never_stuck; picked = phased_picked_ends_done }
