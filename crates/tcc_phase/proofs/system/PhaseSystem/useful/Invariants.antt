-- The events so far are the first of them.
use Rattle.std.proofs.Common.{◌≡◌, map, take}
use Rattle.tcc_msg.specs.Plain.{event_of}
use Rattle.tcc_phase.specs.Phased.{useful_in}
use Rattle.tcc_phase.proofs.system.PhaseSystem.useful.Given as goal

abbrev pub invariant-loop-k : goal.invariant-loop-k
invariant-loop-k l = map event_of l.events ≡ take l.k (useful_in l.self.refined.machine)
