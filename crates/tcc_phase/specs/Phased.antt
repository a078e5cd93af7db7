-- A machine that runs by phases, and what it has come to.
use Rattle.std.specs.Prelude.{◌≡◌, List, map, Some}
use Rattle.rules_maps.specs.Nodes.{Event}
use Rattle.tcc_msg.specs.Plain.{event_of}
use Rattle.theorem_phases.specs.Laws.{InPhases}
use Rattle.rules_riscv.specs.Starting.{at_start}
use Rattle.rules_phases.specs.Phased.{phased_from, phased_useful}
use Rattle.net_core.specs.Machine.{Machine, history_of, start_of}
use Rattle.tcc_refine.specs.Refined.{Refined}

pub record PhaseMachine : Type 0 where
  pub refined : Refined

-- Its events are a run by phases from its start, which leads to its state and commits: each of them was enabled and not held back where
-- it came. So along rising TIDs the phases of its commits never fall.
pub record IsPhased (p : PhaseMachine) : Type 0 where
  pub from : phased_from (start_of p.refined.machine) (map event_of p.refined.taken) (at_start (start_of p.refined.machine))
      ≡ Some (history_of p.refined.machine)
  pub in_phases : InPhases (start_of p.refined.machine) (history_of p.refined.machine)

-- its useful events that aren't held back
abbrev pub useful_in : Machine → List Event
useful_in m = phased_useful (start_of m) (history_of m)
