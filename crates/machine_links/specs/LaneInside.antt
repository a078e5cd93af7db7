-- The fields of a lane, and what always holds of them.
use Rattle.std.specs.Prelude.{◌^◌, ◌<◌, ◌++◌, length}
use Rattle.machine_links.specs.declared.lane.Lane.TheInside.{Inside}
use Rattle.machine_links.specs.Lane.{Lane}
use Rattle.machine_links.specs.Laid.{laid, held_at, Rises}

abbrev pub lane_of : Inside → Lane
lane_of l = laid (held_at (l.front ++ l.rest)) l.sent

-- the numbers rise below that of the next message, and a count of them fits 32 bits
pub record IsLane (l : Inside) : Type 0 where
  pub rising : Rises 0 l.sent (l.front ++ l.rest)
  pub few : length (l.front ++ l.rest) < 2 ^ 32
