-- What a machine has taken by the words of a generator.
use Rattle.std.specs.Prelude.{ℕ, ◌+◌, ◌≡◌, ◌<◌, ◌≤◌, List, [], length, Some}
use Rattle.rand_core.specs.Steps.{first_words}
use Rattle.rand_pcg.specs.Lcg.{Lcg}
use Rattle.rand_pcg.specs.Pcg.{pcg32}
use Rattle.rules_bus.specs.State.{BusEvent}
use Rattle.rules_bus.specs.Step.{bus_from}
use Rattle.rules_bus.specs.Useful.{bus_picked}
use Rattle.bus_tcc.specs.Chosen.{bus_useful_of}
use Rattle.bus_tcc.specs.Machine.{BusMachine, bus_history_of, bus_program_of, bus_settings_of}

-- the schedule that the next n words pick from here
abbrev pub picks : (n : ℕ) → Lcg → BusMachine → List BusEvent
picks n g m = bus_picked (bus_settings_of m) (bus_program_of m) (first_words pcg32 n g) (bus_history_of m)

-- the machine took these events, and where they are fewer than n none is useful any more
pub record TookPicked (old new : BusMachine) (g : Lcg) (n : ℕ) : Type 0 where
  pub ran : bus_from (bus_settings_of old) (bus_program_of old) (picks n g old) (bus_history_of old) ≡ Some (bus_history_of new)
  pub events : new.events ≡ old.events + length (picks n g old)
  pub few : length (picks n g old) ≤ n
  pub stuck : length (picks n g old) < n → bus_useful_of new ≡ []
  pub code : new.code ≡ old.code
