-- What the replay of a list of events answers.
use Rattle.std.specs.Prelude.{ℕ, ◌+◌, ◌<◌, ◌≤◌, ◌≡◌, List, length, map, take, Option, IsSome, None, Some}
use Rattle.tcc_base.specs.Limits.{run_limit}
use Rattle.image_load.specs.Start.{Start}
use Rattle.rv_code.specs.Machine.{program}
use Rattle.rules_riscv.specs.Starting.{world_at_start}
use Rattle.schedule_text.specs.WellFormed.{IsWellFormed}
use Rattle.tcc_msg.specs.Plain.{event_of}
use Rattle.tcc_msg.specs.declared.event.Event.{Event}
use Rattle.rules_tcc.specs.Step.{History, run}
use Rattle.net_core.specs.Machine.{history_of, settings_of}
use Rattle.tcc_refine.specs.Refined.{IsRefined, Refined}
use Rattle.tcc_replay.specs.declared.replaying.ReplayFault.{ReplayFault}
use Rattle.tcc_replay.specs.declared.replaying.ReplayFault.TheVariants.{Memory, Refused}

-- the state and the commits to which the rules lead by these events from the start; None: one of them isn't enabled at its turn
abbrev pub history_by : Start → List Event → Option History
history_by s es = run s.settings (program s) (world_at_start s) (map event_of es)

-- event i, from 0, is the first that isn't enabled at its turn
pub record IsRefusedAt (s : Start) (es : List Event) (i : ℕ) : Type 0 where
  pub there : i < length es
  pub before : IsSome (history_by s (take i es))
  pub refused : history_by s (take (i + 1) es) ≡ None

abbrev pub IsReplayFault : Start → List Event → ReplayFault → Type 0
IsReplayFault s es (Refused i) = IsRefusedAt s es i
IsReplayFault s es Memory = Unit {0}

-- what a machine holds is told by its start and its events
abbrev pub EqualEventsGiveEqualMachines : Type 0
EqualEventsGiveEqualMachines = (r s : Refined) → IsRefined r → IsRefined s → r.machine.cores.code ≡ s.machine.cores.code
    → r.taken ≡ s.taken → history_of r.machine ≡ history_of s.machine

-- no event of a run is refused
abbrev pub RunsAreNotRefused : Type 0
RunsAreNotRefused =
    (s : Start) (es : List Event) (h : History) (i : ℕ) → history_by s es ≡ Some h → IsRefusedAt s es i → ⊥

-- with the machine's settings they are a well-formed schedule
abbrev pub TakenHasText : Type 0
TakenHasText = (r : Refined) → IsRefined r → r.machine.events ≤ run_limit
    → IsWellFormed (record { config = settings_of r.machine; events = r.taken })
