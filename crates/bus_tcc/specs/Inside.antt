-- The parts of a system as the machine that callers see.
use Rattle.bus_tcc.specs.Machine.{BusMachine}
use Rattle.bus_tcc.specs.Whole.{IsBusWhole}
use Rattle.bus_tcc.specs.declared.engine.Engine.TheInside.{Inside}

abbrev pub machine_of : Inside → BusMachine
machine_of s = record {
  code = s.cores.code;
  cores = s.cores.cores;
  ram = s.ram;
  bus = s.bus;
  next = s.next.0;
  commits = s.commits.list;
  room = s.commits.room;
  events = s.events;
}

abbrev pub IsSystem : Inside → Type 0
IsSystem s = IsBusWhole (machine_of s)
