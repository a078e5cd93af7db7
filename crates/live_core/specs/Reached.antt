-- What holds of a machine because the rules have led to it from its start.
use Rattle.theorem_live.specs.Progress.{DoneWhereNoneUseful, EachGoesOn}
use Rattle.net_core.specs.Machine.{Machine, program_of, settings_of, world_of}

pub record IsLive (m : Machine) : Type 0 where
  -- Where no event is useful it is done.
  pub done : DoneWhereNoneUseful (settings_of m) (program_of m) (world_of m)
  -- For each core that hasn't halted some useful event isn't the delivery of another core's request for a TID.
  pub goes_on : EachGoesOn (settings_of m) (program_of m) (world_of m)
