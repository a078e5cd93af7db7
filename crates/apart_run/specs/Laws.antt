-- What is said of the schedules that threads make.
use Rattle.std.specs.Prelude.{ℕ, ◌≡◌, List, length, map, IsSome, Some}
use Rattle.image_load.specs.Start.{Start}
use Rattle.rv_code.specs.Machine.{program}
use Rattle.rules_riscv.specs.Starting.{world_at_start}
use Rattle.tcc_base.specs.Settings.{IsAllowed}
use Rattle.tcc_msg.specs.Plain.{event_of}
use Rattle.tcc_msg.specs.declared.event.Event.{Event}
use Rattle.rules_tcc.specs.Seen.{IsDone}
use Rattle.rules_tcc.specs.Step.{History, run}
use Rattle.apart_run.specs.Joined.{IsJoined}

-- the rules lead from the start by all of its events
abbrev pub JoinedSchedulesAreRuns : Type 0
JoinedSchedulesAreRuns = (s : Start) (steps : ℕ) (events : List Event) → IsJoined s steps events
    → IsSome (run s.settings (program s) (world_at_start s) (map event_of events))

-- where the machine isn't done at the end, all the events that were asked for were taken
abbrev pub OpenJoinedRunsTakeAllEvents : Type 0
OpenJoinedRunsTakeAllEvents = (s : Start) (steps : ℕ) (events : List Event) (h : History) → IsAllowed s.settings
    → IsJoined s steps events → run s.settings (program s) (world_at_start s) (map event_of events) ≡ Some h
    → (IsDone s.settings h.world → ⊥) → length events ≡ steps
