-- What a table of outcomes says of the reports of its program.
use Rattle.std.specs.Prelude.{ℕ, ◌≡◌, ◌/◌, Bool, List, ◌++◌, Some, codes}
use Rattle.std.specs.List.{flat_map}
use Rattle.rules_bus.specs.Step.{BusHistory}
use Rattle.rules_bus.specs.State.{BusEvent}
use Rattle.rules_bus.specs.Useful.{BusIsDone}
use Rattle.theorem_bus.specs.Given.{AfterBusRun, BusSerial, bus_committed}
use Rattle.image_load.specs.Contents.{started}
use Rattle.image_load.specs.Start.{Start}
use Rattle.text_outcomes.specs.Laws.{HasOutcome}
use Rattle.text_outcomes.specs.Table.{table_of}
use Rattle.text_outcomes.specs.Told.{told_text}
use Rattle.report_text.specs.Lines.{newline, end_line, events_line}
use Rattle.report_text.specs.Plain.{shown_plain}
use Rattle.report_text.specs.Shown.{Shown}
use Rattle.report_text.specs.Text.{bus_text, commit_text, report_text, serial_text}
use Rattle.run_outcomes.specs.Outcomes.{HaveEnded, HasEveryOutcome}
use Rattle.run_outcomes.specs.Ways.{Explored}
use Rattle.run_outcomes.specs.declared.outcomes.Results.{Results}
use Rattle.run_outcomes.specs.declared.outcomes.Tell.{Tell}
use Rattle.run_outcomes.specs.declared.stuck.Stuck.{Stuck}
use Rattle.run_outcomes.specs.declared.outcomes.Tell.TheVariants.{Everything}
use Rattle.rv_code.specs.Machine.{program}
use Rattle.rv_plain.specs.Machine.{plain_start}
use Rattle.theorem_riscv.specs.Given.{IsSerial, committed}
use Rattle.rules_riscv.specs.Starting.{AfterRun}
use Rattle.tcc_base.specs.Settings.{IsAllowed}
use Rattle.tcc_base.specs.declared.access.Commit.{Commit}
use Rattle.rules_maps.specs.Nodes.{Event}
use Rattle.rules_program.specs.Plain.{Order, Plain, serial}
use Rattle.rules_tcc.specs.Seen.{IsDone}
use Rattle.rules_tcc.specs.Step.{History}

-- what a report shows of a plain machine after these commits
abbrev pub shown : Start → List Commit → Plain → Shown
shown s commits m = shown_plain s.settings.cores s.settings.base (s.settings.ram / 4) s.word commits m

-- Where a table is done, a report's commits are a serial execution of the program, as those of each run are, and no core's line says that
-- it runs: one of the outcomes has just the lines that are told of what the report shows.
abbrev pub ReportsAreOutcomes : Type 0
ReportsAreOutcomes =
    (tell : Tell) (e : Explored) (r : Results) (stuck : Stuck) (h : History)
    → HasEveryOutcome e.loaded tell e.states r.firsts → IsSerial (started e.loaded) h
    → HaveEnded e.loaded.settings.cores (committed (started e.loaded) h)
    → HasOutcome tell (table_of e r stuck) (shown (started e.loaded) h.commits (committed (started e.loaded) h))

-- and so of the machine with one bus
abbrev pub BusReportsAreOutcomes : Type 0
BusReportsAreOutcomes =
    (tell : Tell) (e : Explored) (r : Results) (stuck : Stuck) (h : BusHistory)
    → HasEveryOutcome e.loaded tell e.states r.firsts → BusSerial (started e.loaded) h
    → HaveEnded e.loaded.settings.cores (bus_committed (started e.loaded) h)
    → HasOutcome tell (table_of e r stuck) (shown (started e.loaded) h.commits (bus_committed (started e.loaded) h))

-- and so of the plain machine after listed transactions
abbrev pub ListsAreOutcomes : Type 0
ListsAreOutcomes =
    (tell : Tell) (e : Explored) (r : Results) (stuck : Stuck) (last : ℕ) (orders : List Order) (m : Plain) (commits : List Commit)
    → HasEveryOutcome e.loaded tell e.states r.firsts
    → serial e.loaded.settings.base (program (started e.loaded)) last orders (plain_start (started e.loaded)) ≡ Some (m, commits)
    → HaveEnded e.loaded.settings.cores m
    → HasOutcome tell (table_of e r stuck) (shown (started e.loaded) commits m)

-- So it is of each run of the machine with directories that is done, whatever picked its events.
abbrev pub DoneRunsAreOutcomes : Type 0
DoneRunsAreOutcomes =
    (tell : Tell) (e : Explored) (r : Results) (stuck : Stuck) (es : List Event) → IsAllowed e.loaded.settings
    → HasEveryOutcome e.loaded tell e.states r.firsts
    → AfterRun (started e.loaded) es (λ h. IsDone e.loaded.settings h.world
    → HasOutcome tell (table_of e r stuck) (shown (started e.loaded) h.commits (committed (started e.loaded) h)))

-- And so it is of each run of the machine with one bus that is done.
abbrev pub DoneBusRunsAreOutcomes : Type 0
DoneBusRunsAreOutcomes =
    (tell : Tell) (e : Explored) (r : Results) (stuck : Stuck) (es : List BusEvent) → IsAllowed e.loaded.settings
    → HasEveryOutcome e.loaded tell e.states r.firsts
    → AfterBusRun (started e.loaded) es (λ h. BusIsDone e.loaded.settings h.world
    → HasOutcome tell (table_of e r stuck) (shown (started e.loaded) h.commits (bus_committed (started e.loaded) h)))

-- A report is its first lines, its commits, and then just the lines that an outcome has where all is told.
pub record EndsWithItsState (done : Bool) (events : ℕ) (s : Shown) : Type 0 where
  pub run : report_text done events s
      ≡ codes "tcc-report 1" ++ newline ++ end_line done ++ events_line events ++ flat_map commit_text s.commits ++ told_text Everything s
  pub bus : bus_text done events s
      ≡ codes "tcc-bus 1" ++ newline ++ end_line done ++ events_line events ++ flat_map commit_text s.commits ++ told_text Everything s
  pub list : serial_text s ≡ codes "tcc-serial 1" ++ newline ++ flat_map commit_text s.commits ++ told_text Everything s

abbrev pub ReportsEndWithTheirState : Type 0
ReportsEndWithTheirState = (done : Bool) (events : ℕ) (s : Shown) → EndsWithItsState done events s
