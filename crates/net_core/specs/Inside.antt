-- The parts of a system as the machine that callers see.
use Rattle.std.specs.Prelude.{drop}
use Rattle.net_core.specs.Machine.{Machine}
use Rattle.net_core.specs.Whole.{IsWhole}
use Rattle.net_core.specs.declared.system.System.TheInside.{Inside}

abbrev pub machine_of : Inside → Machine
machine_of s = record {
  cores = s.cores;
  dirs = s.dirs;
  next = s.vendor;
  flights = s.flights;
  sender = s.sender;
  unsent = drop s.placed s.out.list.items;
  last = s.out.list.items;
  commits = s.commits.list;
  room = s.commits.room;
  events = s.events;
}

abbrev pub IsSystem : Inside → Type 0
IsSystem s = IsWhole (machine_of s)
