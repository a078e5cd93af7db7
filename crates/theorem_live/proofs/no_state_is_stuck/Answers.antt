use Rattle.theorem_live.proofs.Stuck.{no_state_is_stuck}
use Rattle.theorem_live.proofs.no_state_is_stuck.Goals as goal

pub returns : goal.returns
returns c = record { done = no_state_is_stuck }
