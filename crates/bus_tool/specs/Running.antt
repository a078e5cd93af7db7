-- A run of the machine with one bus by the events that a seed picks.
use Rattle.std.specs.Prelude.{ℕ, ◌≡◌, ◌<◌, ◌≤◌, List, length, Some}
use Rattle.image_load.specs.Start.{Start}
use Rattle.rand_core.specs.Pcg32Seed.{pcg32_seed}
use Rattle.rand_core.specs.Steps.{first_words}
use Rattle.rand_pcg.specs.Lcg.{Lcg}
use Rattle.rand_pcg.specs.Pcg.{pcg32, pcg32_of_seed}
use Rattle.rv_code.specs.Machine.{program}
use Rattle.rules_bus.specs.State.{BusEvent}
use Rattle.rules_bus.specs.Step.{bus_run}
use Rattle.rules_bus.specs.Useful.{BusIsDone}
use Rattle.theorem_bus.specs.Given.{BusSerial, bus_at_start, bus_picked_from}
use Rattle.theorem_bus.specs.Laws.{AreNumbered}
use Rattle.bus_tcc.specs.Machine.{BusMachine, bus_history_of, bus_world_of}

-- the generator of a seed, PCG XSH RR 64/32: that of the machine with directories
abbrev pub seeded : (seed : ℕ) → Lcg
seeded seed = pcg32_of_seed (pcg32_seed 16 seed)

-- the schedule that a seed picks: one event for each random word, or fewer where none is useful any more
abbrev pub bus_picked_by : Start → (seed steps : ℕ) → List BusEvent
bus_picked_by s seed steps = bus_picked_from s (first_words pcg32 steps (seeded seed))

-- a machine that took these events from its start, and nothing else
pub record RanBySeed (s : Start) (seed steps : ℕ) (m : BusMachine) : Type 0 where
  -- The rules lead by them to its state and its commits.
  pub is_run : bus_run s.settings (program s) (bus_at_start s).world (bus_picked_by s seed steps) ≡ Some (bus_history_of m)
  -- There are as many as were asked for, or fewer, where all is done.
  pub events : m.events ≡ length (bus_picked_by s seed steps)
  pub few : m.events ≤ steps
  pub ends : m.events < steps → BusIsDone s.settings (bus_world_of m)
  -- The headline: the commits, by TIDs from 1, are a serial execution of the plain machine, and what is committed is that machine after
  -- them.
  pub serial : BusSerial s (bus_history_of m)
  pub tids : AreNumbered 1 m.commits
