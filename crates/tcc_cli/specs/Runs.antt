-- The run of a machine by a schedule: the state to which the protocol's rules lead, what is committed there, and the text of it.
use Rattle.std.specs.Prelude.{ℕ, Bool, List, map, length, ◌/◌, ◌≡◌, ◌↔◌, Some, IsTrue}
use Rattle.image_load.specs.Start.{Start}
use Rattle.report_text.specs.Plain.{shown_plain}
use Rattle.report_text.specs.Shown.{Shown}
use Rattle.report_text.specs.Text.{report_text}
use Rattle.report_text.specs.Trial.{trial_text}
use Rattle.rv_code.specs.Machine.{program}
use Rattle.theorem_riscv.specs.Given.{IsSerial, committed}
use Rattle.theorem_riscv.specs.Going.{picked_from}
use Rattle.rules_riscv.specs.Starting.{world_at_start}
use Rattle.rules_maps.specs.Nodes as rules
use Rattle.tcc_msg.specs.Plain.{event_of}
use Rattle.tcc_msg.specs.declared.event.Event.{Event}
use Rattle.rules_tcc.specs.Seen.{IsDone}
use Rattle.rules_tcc.specs.Step.{History, run}
use Rattle.tcc_pick.specs.Words.{seeded, words}
use Rattle.work_gen.specs.declared.work.Work.{Work}

-- the schedule that a seed picks: one event for each random word, or fewer where none is useful any more
abbrev pub picked_by : Start → (seed steps : ℕ) → List rules.Event
picked_by s seed steps = picked_from s (words steps (seeded seed))

-- the rules lead by these events to this state, with these commits
abbrev pub IsRun : Start → List rules.Event → History → Type 0
IsRun s es h = run s.settings (program s) (world_at_start s) es ≡ Some h

-- A run of the rules. The headline: its commits are a serial execution of the plain machine, and what is committed is that machine
-- after them. `done` is whether every core has halted, nothing is in flight and no frame has a dirty word.
pub record RunsBy (s : Start) (es : List rules.Event) (done : Bool) (h : History) : Type 0 where
  pub is_run : IsRun s es h
  pub is_done : IsTrue done ↔ IsDone s.settings h.world
  pub serial : IsSerial s h

-- by the events of a schedule
abbrev pub RunsTo : Start → List Event → Bool → History → Type 0
RunsTo s es done h = RunsBy s (map event_of es) done h

-- by whichever events that lead here
abbrev pub EndsBy : Start → Bool → History → Type 0
EndsBy s done h = (es : List rules.Event) → IsRun s es h → RunsBy s es done h

-- what is committed, as the plain machine that executed the commits
abbrev pub shown : Start → History → Shown
shown s h = shown_plain s.settings.cores s.settings.base (s.settings.ram / 4) s.word h.commits (committed s h)

unfoldable pub run_text : Start → (done : Bool) → (events : ℕ) → History → List ℕ
run_text s done events h = report_text done events (shown s h)

unfoldable pub summary_text : Start → Work → (number : ℕ) → (done : Bool) → (events : ℕ) → History → List ℕ
summary_text s work number done events h = trial_text (record {
  work = work;
  number = number;
  done = done;
  events = events;
  commits = length h.commits;
  count = s.settings.ram / 4;
  ram = (committed s h).ram;
  loaded = s.word;
})
