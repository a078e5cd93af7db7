-- A run that goes on event by event: what it has taken, and what is to come.
use Rattle.std.specs.Prelude.{ℕ, ◌≡◌, ◌+◌, Bool, List, [], ◌∷◌, ◌++◌, length, Option, Some, None}
use Rattle.image_load.specs.Contents.{Contents, started}
use Rattle.rules_bus.specs.State.{BusEvent}
use Rattle.rules_bus.specs.Step.{BusHistory, bus_from}
use Rattle.theorem_bus.specs.Given.{bus_at_start}
use Rattle.bus_tcc.specs.Machine.{BusMachine, bus_history_of, bus_program_of, bus_settings_of, bus_start_of}
use Rattle.bus_tool.specs.Picking.{picks}
use Rattle.bus_tool.specs.Running.{seeded}
use Rattle.bus_watch.specs.Watched.{BusTookAndTold}
use Rattle.bus_changes.specs.Text.{bus_shown_texts, bus_shows}
use Rattle.bus_run.specs.declared.running.BusRun.{BusRun}

-- the events that are to come: those that the words that are left pick
abbrev pub coming : BusRun → List BusEvent
coming r = picks r.left r.words r.system

-- the run of a machine by these events, and the text of each of them, with records or without
abbrev pub runs : BusMachine → List BusEvent → Option BusHistory
runs m es = bus_from (bus_settings_of m) (bus_program_of m) es (bus_history_of m)

abbrev pub texts : (states : Bool) → BusMachine → List BusEvent → List (List ℕ)
texts states m es =
    bus_shown_texts (bus_shows states (bus_start_of m)) (bus_settings_of m) (bus_program_of m) es (bus_history_of m)

-- no event was taken, and so many words of the seed are left
pub record Starts (c : Contents) (seed steps : ℕ) (r : BusRun) : Type 0 where
  pub code : r.system.code ≡ c
  pub history : bus_history_of r.system ≡ bus_at_start (started c)
  pub events : r.system.events ≡ 0
  pub words : r.words ≡ seeded seed
  pub left : r.left ≡ steps

-- the first of the events that were to come was taken, with these facts; or none comes
abbrev pub Moves : (old new : BusRun) → Option BusEvent → Type 0
Moves old new None = (new.system ≡ old.system) × (new.left ≡ old.left) × (coming old ≡ []) × (coming new ≡ [])
Moves old new (Some e) =
    BusTookAndTold old.system new.system e new.facts × (coming old ≡ e ∷ coming new) × (new.left + 1 ≡ old.left)

-- events that were to come were taken: what came to the first is what has come to the later with what is still to come
pub record GoneOn (old new : BusRun) : Type 0 where
  pub code : new.system.code ≡ old.system.code
  pub ran : runs old.system (coming old) ≡ runs new.system (coming new)
  pub events : old.system.events + length (coming old) ≡ new.system.events + length (coming new)
  -- a word for each
  pub words : old.system.events + old.left ≡ new.system.events + new.left

-- and these are their texts
pub record Led (states : Bool) (old new : BusRun) (told : List (List ℕ)) : Type 0 where
  pub gone : GoneOn old new
  pub texts_are : texts states old.system (coming old) ≡ told ++ texts states new.system (coming new)
