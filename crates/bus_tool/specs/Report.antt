-- The report of the machine with one bus as it stands.
use Rattle.std.specs.Prelude.{ℕ, Bool, List, IsTrue, ◌/◌, ◌≡◌, ◌↔◌}
use Rattle.image_load.specs.Start.{Start}
use Rattle.report_text.specs.Plain.{shown_plain}
use Rattle.report_text.specs.Shown.{Shown}
use Rattle.report_text.specs.Text.{bus_text}
use Rattle.rules_bus.specs.Step.{BusHistory}
use Rattle.rules_bus.specs.Useful.{BusIsDone}
use Rattle.theorem_bus.specs.Given.{bus_committed}
use Rattle.bus_tcc.specs.Machine.{BusMachine, bus_history_of, bus_settings_of, bus_start_of, bus_world_of}

-- what is committed, as the plain machine that executed the commits
abbrev pub bus_shown : Start → BusHistory → Shown
bus_shown s h = shown_plain s.settings.cores s.settings.base (s.settings.ram / 4) s.word h.commits (bus_committed s h)

unfoldable pub bus_run_text : Start → (done : Bool) → (events : ℕ) → BusHistory → List ℕ
bus_run_text s done events h = bus_text done events (bus_shown s h)

-- The bytes are the report of a machine, which tells whether it is done.
pub record IsBusReport (m : BusMachine) (bytes : List ℕ) : Type 0 where
  pub done : Bool
  pub is_done : IsTrue done ↔ BusIsDone (bus_settings_of m) (bus_world_of m)
  pub text : bytes ≡ bus_run_text (bus_start_of m) done m.events (bus_history_of m)
