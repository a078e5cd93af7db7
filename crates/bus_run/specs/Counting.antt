-- A run that is counted while it goes on.
use Rattle.std.specs.Prelude.{ℕ, ◌≡◌, List, []}
use Rattle.rules_bus.specs.State.{BusEvent}
use Rattle.bus_tcc.specs.Machine.{BusMachine, bus_history_of, bus_program_of, bus_settings_of}
use Rattle.bus_watch.specs.Facts.{BusFact}
use Rattle.bus_count.specs.Counts.{BusCounts, bus_run_counted}
use Rattle.bus_run.specs.Counted.{bus_run_facts}
use Rattle.bus_run.specs.Going.{GoneOn, coming}
use Rattle.bus_run.specs.declared.running.BusRun.{BusRun}

-- each event's core and its facts
abbrev pub facts : BusMachine → List BusEvent → List (ℕ × List BusFact)
facts m es = bus_run_facts (bus_settings_of m) (bus_program_of m) es (bus_history_of m)

-- all events that were to come were taken and counted
pub record AreCounted (old new : BusRun) (before counts : BusCounts) : Type 0 where
  pub gone : GoneOn old new
  pub ended : coming new ≡ []
  pub counted : counts ≡ bus_run_counted (facts old.system (coming old)) before
