-- A machine that takes events one after another.
use Rattle.std.specs.Prelude.{◌≡◌, ◌+◌, List, [], ◌∷◌, length, Some}
use Rattle.image_load.specs.Start.{Start}
use Rattle.rules_maps.specs.Nodes.{Event}
use Rattle.rules_tcc.specs.State.{World}
use Rattle.rules_tcc.specs.Step.{next_history, run_from}
use Rattle.net_core.specs.Machine.{Machine, history_of, program_of, settings_of, start_of, world_of}

-- the machine took this event
pub record Took (old new : Machine) (e : Event) : Type 0 where
  pub next : next_history (settings_of old) (program_of old) (history_of old) e ≡ Some (history_of new)
  pub settled : new.unsent ≡ []
  pub events : new.events ≡ old.events + 1
  pub code : new.cores.code ≡ old.cores.code

-- it took these, one after another
pub record Went (old new : Machine) (es : List Event) : Type 0 where
  pub ran : run_from (settings_of old) (program_of old) es (history_of old) ≡ Some (history_of new)
  pub settled : new.unsent ≡ []
  pub events : new.events ≡ old.events + length es
  pub code : new.cores.code ≡ old.cores.code

-- of the events that were to come this is the first, and for a machine that has taken it the others come
abbrev pub IsFirst : (now : List Event) → (later : Start → World → List Event) → Machine → Event → Type 0
IsFirst now later m e = (n : Machine) → Took m n e → now ≡ e ∷ later (start_of n) (world_of n)
