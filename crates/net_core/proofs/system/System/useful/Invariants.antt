-- The events so far are the first of them.
use Rattle.std.proofs.Common.{◌≡◌, map, take}
use Rattle.tcc_msg.specs.Plain.{event_of}
use Rattle.rules_tcc.specs.Useful.{useful}
use Rattle.net_core.specs.Machine.{program_of, settings_of, world_of}
use Rattle.net_core.proofs.system.System.useful.Given as goal

abbrev pub invariant-loop-k : goal.invariant-loop-k
invariant-loop-k l = map event_of l.events ≡ take l.k (useful (settings_of l.self) (program_of l.self) (world_of l.self))
