use Rattle.theorem_live.proofs.Stuck.{picked_ends_done}
use Rattle.theorem_live.proofs.picked_schedules_end_where_all_is_done.Goals as goal

pub returns : goal.returns
returns c = record { done = picked_ends_done }
