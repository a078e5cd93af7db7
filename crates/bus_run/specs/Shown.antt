-- A run that is told with records: what is skipped before the window begins, and what is told of each event.
use Rattle.std.specs.Prelude.{ℕ, ◌≡◌, ◌+◌, ◌≤◌, Bool, true, false, List, [], ◌++◌, Option, if◌then◌else◌}
use Rattle.std.specs.Io.KnownBytes.{Appends}
use Rattle.tcc_base.specs.Limits.{run_limit}
use Rattle.image_load.specs.Contents.{Contents, started}
use Rattle.image_load.specs.Start.{first_ram}
use Rattle.rules_bus.specs.State.{BusWorld}
use Rattle.bus_tcc.specs.Machine.{BusMachine, bus_history_of, bus_program_of, bus_settings_of, bus_start_of, bus_world_of}
use Rattle.bus_changes.specs.Plain.{BusParts, IsKept}
use Rattle.bus_changes.specs.Text.{bus_changes_lines, bus_shown_from, bus_with_records}
use Rattle.bus_run.specs.Going.{GoneOn, Starts, coming}
use Rattle.bus_run.specs.Traced.{bus_lines_by}
use Rattle.bus_run.specs.declared.running.BusRun.{BusRun}
use Rattle.bus_run.specs.declared.showing.KeptRun.{KeptRun}

-- the lines of the events that are to come, from this number on, with records
abbrev pub lines_coming : (from : ℕ) → BusRun → List ℕ
lines_coming from r =
    bus_shown_from (bus_with_records (bus_start_of r.system)) (bus_settings_of r.system) (bus_program_of r.system) from (coming r)
    (bus_history_of r.system)

-- so many events were taken, and the window begins; or fewer came, and nothing is to be shown
abbrev pub Skipped : (from : ℕ) → (old new : BusRun) → Bool → Type 0
Skipped from old new true = GoneOn old new × (new.left ≤ old.left) × (lines_coming from old ≡ lines_coming 0 new)
Skipped from old new false = GoneOn old new × (coming new ≡ []) × (lines_coming from old ≡ [])

-- what changed of a machine since this state stands behind the text, where it is shown, and what there is now is kept
pub record IsShown (shown : Bool) (new : BusParts) (m : BusMachine) (core : ℕ) (w : BusWorld) (before after : List ℕ) : Type 0 where
  pub told : after
      ≡ before ++ (if shown then bus_changes_lines (bus_settings_of m) (first_ram (bus_start_of m)) core w (bus_world_of m) else [])
  pub kept : IsKept new (bus_settings_of m) (bus_world_of m)

-- it can take its next event, and what is kept is of its state
pub record CanShow (r : KeptRun) : Type 0 where
  pub few : r.run.system.events + r.run.left ≤ run_limit
  pub kept : IsKept r.kept (bus_settings_of r.run.system) (bus_world_of r.run.system)

-- all events came: of the trace without its last lines the last part is held, and the rest was written
pub record IsAllTold (states : Bool) (c : Contents) (seed steps from : ℕ) (last : BusRun) (now : List ℕ) (before after : Option (List ℕ))
    : Type 0 where
  pub first : BusRun
  pub starts : Starts c seed steps first
  pub gone : GoneOn first last
  pub end : coming last ≡ []
  pub written : List ℕ
  pub all : bus_lines_by states (started c) seed steps from ≡ written ++ now
  pub appended : Appends before after written
