-- The parts of a machine that runs by phases, as callers see them, and what always holds of them.
use Rattle.tcc_base.specs.Settings.{IsAllowed}
use Rattle.net_core.specs.Machine.{history_of, settings_of, start_of}
use Rattle.tcc_phase.specs.Kept.{IsKept}
use Rattle.tcc_phase.specs.Phased.{IsPhased, PhaseMachine}
use Rattle.tcc_phase.specs.declared.system.PhaseSystem.TheInside.{Inside}

abbrev pub machine_of : Inside → PhaseMachine
machine_of s = record { refined = s.refined }

pub record IsPhaseSystem (s : Inside) : Type 0 where
  pub allowed : IsAllowed (settings_of s.refined.machine)
  pub phased : IsPhased (machine_of s)
  pub kept : IsKept (start_of s.refined.machine) (history_of s.refined.machine) s.refined.machine.events s.standing
