-- Where a schedule comes from, what it leads to, and the text of that.
use Rattle.std.specs.Prelude.{ℕ, Bool, List, map, length, ◌≡◌, ◌≢◌, ◌+◌, ◌⊎◌, Option, Some, None, if◌then◌else◌}
use Rattle.image_load.specs.Start.{Start}
use Rattle.net_core.specs.Machine.{Machine, history_of}
use Rattle.schedule_text.specs.Faults.{IsFirstFault}
use Rattle.schedule_text.specs.Grammar.{text_of}
use Rattle.schedule_text.specs.WellFormed.{IsWellFormed}
use Rattle.tcc_base.specs.Settings.{Settings}
use Rattle.tcc_cli.specs.Runs.{IsRun, RunsTo, picked_by}
use Rattle.tcc_msg.specs.Plain.{event_of}
use Rattle.tcc_msg.specs.declared.event.Event.{Event}
use Rattle.tcc_msg.specs.declared.event.Schedule.{Schedule}
use Rattle.tcc_replay.specs.Replayed.{IsRefusedAt}
use Rattle.rules_tcc.specs.Step.{History}
use Rattle.apart_run.specs.Joined.{IsJoined}

-- these bytes are the text of a schedule with these settings and events
pub record IsScheduleOf (settings : Settings) (es : List Event) (bytes : List ℕ) : Type 0 where
  pub formed : IsWellFormed (record { config = settings; events = es })
  pub text : bytes ≡ text_of (record { config = settings; events = es })

-- these bytes are the text of a schedule with other settings
pub record HasOtherSettings (settings : Settings) (bytes : List ℕ) : Type 0 where
  pub schedule : Schedule
  pub formed : IsWellFormed schedule
  pub text : bytes ≡ text_of schedule
  pub other : schedule.config ≢ settings

-- the record, where one is asked for, holds the text of this schedule, where the store makes known what it was given
abbrev pub IsRecorded : (record_name : Option (List ℕ)) → (tells : Bool) → (told : List ℕ → Option (List ℕ)) → Schedule → Type 0
IsRecorded None tells told s = Unit {0}
IsRecorded (Some name) tells told s = IsWellFormed s × (told name ≡ (if tells then Some (text_of s) else None))

-- the record, where one is asked for, is whole: it holds a schedule that is so
abbrev pub RecordsOne : (IsSchedule : List Event → Type 0) → Settings → (record_name : Option (List ℕ)) → (tells : Bool)
    → (told : List ℕ → Option (List ℕ)) → Type 0
RecordsOne IsSchedule settings record_name tells told =
    (es : List Event) × IsSchedule es × IsRecorded record_name tells told (record { config = settings; events = es })

-- the schedule that a seed picks, and the record of it
abbrev pub IsPicked : Start → (seed steps : ℕ) → List Event → Type 0
IsPicked s seed steps es = map event_of es ≡ picked_by s seed steps

-- the schedule of a run: the one that a seed picks, or one that host threads make
abbrev pub IsMade : (threads : Option ℕ) → Start → (seed steps : ℕ) → List Event → Type 0
IsMade None s seed steps es = IsPicked s seed steps es
IsMade (Some n) s seed steps es = IsJoined s steps es

-- a machine that took such a schedule from this start on, and may keep no list of it
pub record HasTaken (s : Start) (IsSchedule : List Event → Type 0) (m : Machine) : Type 0 where
  pub taken : List Event
  pub schedule : IsSchedule taken
  pub is_run : IsRun s (map event_of taken) (history_of m)
  pub count : length taken ≡ m.events

-- A run by such a schedule, from this start, with its end and the text of that. The headline: see `RunsTo`.
pub record Ran (s : Start) (IsSchedule : List Event → Type 0) (text_of_end : Bool → ℕ → History
    → List ℕ) (done : Bool) (text : List ℕ) : Type 0 where
  pub events : List Event
  pub ends : History
  pub schedule : IsSchedule events
  pub runs : RunsTo s events done ends
  pub text_is : text ≡ text_of_end done (length events) ends

-- the line at which a schedule is refused: the first that the grammar doesn't allow, or the second where its settings aren't the
-- command's, or that of the first event that isn't enabled at its turn, where this part of its events is taken
abbrev pub IsFaultOf : (part : List Event → List Event) → Start → Settings → (bytes : List ℕ) → (line : ℕ) → Type 0
IsFaultOf part s settings bytes line =
    IsFirstFault line bytes
    ⊎ ((line ≡ 2) × HasOtherSettings settings bytes)
    ⊎ ((es : List Event) × (i : ℕ) × IsScheduleOf settings es bytes × IsRefusedAt s (part es) i × (line ≡ i + 3))

abbrev pub IsScheduleFault : Start → Settings → (bytes : List ℕ) → (line : ℕ) → Type 0
IsScheduleFault s settings bytes line = IsFaultOf (λ es. es) s settings bytes line
