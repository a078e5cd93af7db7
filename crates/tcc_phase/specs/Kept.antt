-- What is kept beside a machine says what the rules of phases say of its run.
use Rattle.std.specs.Prelude.{ℕ, ◌≡◌, ◌<◌, ◌≤◌, get_or, length, vec_capacity}
use Rattle.image_load.specs.Start.{Start}
use Rattle.rv_code.specs.Machine.{program}
use Rattle.rules_maps.specs.Nodes.{Core, Vendor}
use Rattle.rules_maps.specs.Words.{those}
use Rattle.rules_tcc.specs.Step.{History}
use Rattle.rules_phases.specs.Phases.{phase_of, phases_of}
use Rattle.tcc_phase.specs.Requests.{IsAsked, Limits, is_waiting}
use Rattle.tcc_phase.specs.declared.standing.Standing.{Standing}

-- a row for each core, and room for all of them among those that wait
pub record HasRows (n : ℕ) (l : Standing) : Type 0 where
  pub own : length l.own.items ≡ n
  pub asked : length l.asked.items ≡ n
  pub held : n ≤ vec_capacity l.held

pub record IsKept (s : Start) (h : History) (events : ℕ) (l : Standing) : Type 0 where
  pub rows : HasRows s.settings.cores l
  pub each : l.each.items ≡ phases_of s h
  pub own : (c : ℕ) → c < s.settings.cores → get_or l.own.items c 0 ≡ phase_of s h c
  pub asked : (c : ℕ) → c < s.settings.cores → IsAsked (h.world.net (Core c) Vendor) (get_or l.asked.items c 0)
  pub few : (c : ℕ) → get_or l.asked.items c 0 ≤ events
  pub limits : Limits s.settings h.world l.own.items l.least
  pub held : l.held.items ≡ those (is_waiting s.settings (program s) h.world l.own.items l.asked.items) s.settings.cores
