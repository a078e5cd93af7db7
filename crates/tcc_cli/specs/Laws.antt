-- What follows from the program's answers.
use Rattle.std.specs.Prelude.{ℕ, true, List, length, map, Contains, Option, IsSome, ◌≡◌, ◌≢◌, ◌↔◌, ◌⊎◌, Some, None}
use Rattle.rules_bus.specs.Step.{BusHistory}
use Rattle.rules_bus.specs.Useful.{BusIsDone}
use Rattle.bus_tool.specs.Running.{bus_picked_by}
use Rattle.image_load.specs.Start.{Start}
use Rattle.tcc_base.specs.Settings.{IsAllowed}
use Rattle.tcc_base.specs.declared.access.Commit.{Commit}
use Rattle.tcc_cli.specs.Around.{Around}
use Rattle.tcc_cli.specs.Comes.{IsFaultyLine}
use Rattle.tcc_cli.specs.Commands.{fault_from, files_of, image_names, machine_of, record_of}
use Rattle.tcc_cli.specs.Lines.{IsWhole}
use Rattle.tcc_world.specs.Page.{Written}
use Rattle.tcc_cli.specs.OnBus.{IsBusRun}
use Rattle.tcc_cli.specs.Phased.{IsPhasePicked, phases_and}
use Rattle.tcc_cli.specs.Runs.{IsRun}
use Rattle.tcc_cli.specs.Schedules.{IsMade}
use Rattle.tcc_cli.specs.Top.{Caused}
use Rattle.tcc_cli.specs.declared.status.Status.{Status}
use Rattle.tcc_cli.specs.declared.status.Status.TheVariants.{Done, Stopped, Words, Image, Schedule, Memory}
use Rattle.tcc_msg.specs.Plain.{event_of}
use Rattle.tcc_msg.specs.declared.event.Event.{Event}
use Rattle.rules_tcc.specs.Seen.{IsDone}
use Rattle.rules_tcc.specs.Step.{History}
use Rattle.tcc_words.specs.Asked.{IsCommand}
use Rattle.tcc_words.specs.declared.command.Command.{Command}
use Rattle.tcc_words.specs.declared.command.Command.TheVariants.{Replay, Phases, Long}
use Rattle.tcc_words.specs.declared.command.Begin.TheVariants as begin
use Rattle.tcc_world.specs.Faults.{Rose}

-- none of a command's files failed to be read or written, and the output didn't fail
pub record HasNoFault (c : Command) (w : Around) : Type 0 where
  pub reads : (name : List ℕ) → Contains (files_of c) name → Rose (w.files.before.failed_reads name) (w.files.after.failed_reads name) → ⊥
  pub writes : (name : List ℕ) → record_of c ≡ Some name → Rose (w.files.before.failed_writes name) (w.files.after.failed_writes name) → ⊥
  pub out : Rose w.out.before.faults w.out.after.faults → ⊥

-- the store tells the bytes of these files
abbrev pub AreTold : (told : List ℕ → Option (List ℕ)) → (names files : List (List ℕ)) → Type 0
AreTold told names files = map told names ≡ map (λ file. Some file) files

-- no checkpoint is read, of which no clause says at which lines it is refused
abbrev pub TakesNoCheckpoint : Command → Type 0
TakesNoCheckpoint (Long machine images (begin.Checkpoint name) steps view keep) = ⊥
TakesNoCheckpoint _ = Unit {0}

-- what is left to answer where nothing fails; beside each stands want of memory, of which nothing more is said
pub record IsLeft (c : Command) (files : List (List ℕ)) (status : Status) : Type 0 where
  -- an image is refused
  pub image : IsSome (fault_from c files) → (status ≡ Image) ⊎ (status ≡ Memory)
  -- the images are accepted and the schedule or list is refused
  pub schedule : fault_from c files ≡ None → TakesNoCheckpoint c → (line : ℕ) → IsFaultyLine c files line
      → (status ≡ Schedule) ⊎ (status ≡ Memory)
  -- neither is: the command is carried out and its whole text written
  pub neither : fault_from c files ≡ None → ((line : ℕ) → IsFaultyLine c files line → ⊥)
      → (status ≡ Done) ⊎ (status ≡ Stopped) ⊎ (status ≡ Memory)

-- completeness: where the words ask for a command, the files' bytes are told, and nothing fails, what is left is answered
abbrev pub AnswersAreComplete : Type 0
AnswersAreComplete =
    (words : List (List ℕ)) (w : Around) (err : Written) (status : Status) (c : Command) (files : List (List ℕ))
    → Caused words w err status → IsCommand words c → AreTold w.files.before.contents (files_of c) files → HasNoFault c w
    → IsLeft c files status

-- words that are no command are refused, and no others, unless memory runs out
abbrev pub OthersAreRefused : Type 0
OthersAreRefused =
    (words : List (List ℕ)) (w : Around) (err : Written) (status : Status) → Caused words w err status → status ≢ Memory
    → ((c : Command) → IsCommand words c → ⊥) ↔ (status ≡ Words)

-- a run at whose end the machine isn't done took all the events that were asked for
abbrev pub OpenRunsTakeAllEvents : Type 0
OpenRunsTakeAllEvents =
    (s : Start) (threads : Option ℕ) (seed steps : ℕ) (es : List Event) (h : History) → IsAllowed s.settings
    → IsMade threads s seed steps es → IsRun s (map event_of es) h → (IsDone s.settings h.world → ⊥) → length es ≡ steps

-- and so did a run by phases
abbrev pub OpenPhasedRunsTakeAllEvents : Type 0
OpenPhasedRunsTakeAllEvents =
    (s : Start) (seed steps : ℕ) (es : List Event) (h : History) → IsAllowed s.settings → IsPhasePicked s seed steps es
    → IsRun s (map event_of es) h → (IsDone s.settings h.world → ⊥) → length es ≡ steps

-- and so did a run of the machine with one bus
abbrev pub OpenBusRunsTakeAllEvents : Type 0
OpenBusRunsTakeAllEvents =
    (s : Start) (seed steps : ℕ) (h : BusHistory) → IsAllowed s.settings → IsBusRun s (bus_picked_by s seed steps) h
    → (BusIsDone s.settings h.world → ⊥) → length (bus_picked_by s seed steps) ≡ steps

-- the record is a schedule, and no checkpoint
abbrev pub WritesSchedule : Command → Type 0
WritesSchedule (Long machine images begin steps view keep) = ⊥
WritesSchedule _ = Unit {0}

-- two calls: a run that is recorded, and a replay of the record, by the same settings and with the same images, in the files as the run
-- left them; the record isn't one of the images
pub record ReplaysRecord (w v : Around) (recorded replay : List (List ℕ)) (c : Command) (name : List ℕ) : Type 0 where
  pub first : IsCommand recorded c
  pub named : record_of c ≡ Some name
  pub schedule : WritesSchedule c
  pub second : IsCommand replay (Replay (machine_of c) name (image_names c))
  pub left : (n : List ℕ) → v.files.before.contents n ≡ w.files.after.contents n
  pub tells : w.files.before.tells ≡ true
  pub files : List (List ℕ)
  pub told : AreTold w.files.before.contents (image_names c) files
  pub apart : Contains (image_names c) name → ⊥

-- one text was written whole to both outputs
abbrev pub IsSameText : (o p : Written) → Type 0
IsSameText o p = (text : List ℕ) × IsWhole text o × IsWhole text p

-- the report that stands behind phases of commits in what was written to the first was written whole to the second
abbrev pub IsSameReport : (o p : Written) → Type 0
IsSameReport o p =
    (commits : List Commit) × (phases : List ℕ) × (report : List ℕ) × IsWhole (phases_and commits phases report) o × IsWhole report p

-- what a run and the replay of its record print: the same, but for the phases of a run by phases
abbrev pub IsPrintedAgain : Command → (o p : Written) → Type 0
IsPrintedAgain (Phases machine images steps seed keep) o p = IsSameReport o p
IsPrintedAgain _ o p = IsSameText o p

-- the replay of a record ends as the run did and prints the same report, where nothing fails in it and memory suffices
abbrev pub ReplaysPrintTheSame : Type 0
ReplaysPrintTheSame =
    (w v : Around) (recorded replay : List (List ℕ)) (e f : Written) (status other : Status) (c : Command) (name : List ℕ)
    → ReplaysRecord w v recorded replay c name → Caused recorded w e status → (status ≡ Done) ⊎ (status ≡ Stopped)
    → Caused replay v f other → HasNoFault (Replay (machine_of c) name (image_names c)) v → other ≢ Memory
    → (other ≡ status) × IsPrintedAgain c w.out v.out
