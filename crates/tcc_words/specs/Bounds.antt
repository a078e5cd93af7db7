-- The numbers of a command are within their bounds.
use Rattle.std.specs.Prelude.{ℕ, ◌≡◌, ◌≤◌, List, length, IfSome, IsSome, Option, None}
use Rattle.clap.specs.Words.{Text}
use Rattle.tcc_base.specs.Limits.{text_limit}
use Rattle.tcc_base.specs.Settings.{Settings, IsAllowed}
use Rattle.tcc_words.specs.Asked.{IsCommand}
use Rattle.tcc_words.specs.Fields.{count_limit}
use Rattle.tcc_words.specs.declared.command.Begin.{Begin}
use Rattle.tcc_words.specs.declared.command.Begin.TheVariants as begin
use Rattle.tcc_words.specs.declared.command.Command.{Command}
use Rattle.tcc_words.specs.declared.command.Command.TheVariants.{Run, Replay, Serial, Trial, Why, Phases, Bus, Look}
use Rattle.tcc_words.specs.declared.command.Command.TheVariants.{LookOnBus, Outcomes, Follow, Long}
use Rattle.tcc_words.specs.declared.command.Source.{Source}
use Rattle.tcc_words.specs.declared.command.Source.TheVariants.{Seed, Schedule}
use Rattle.tcc_words.specs.declared.command.View.{View}
use Rattle.tcc_words.specs.declared.command.View.TheVariants.{Trace, Count, Rows, Consoles, State}

abbrev pub config_of : Command → Settings
config_of (Run machine images steps seed threads batch keep) = machine.config
config_of (Replay machine schedule images) = machine.config
config_of (Serial machine list images) = machine.config
config_of (Trial config work number steps seed) = config
config_of (Why machine schedule images) = machine.config
config_of (Phases machine images steps seed keep) = machine.config
config_of (Bus machine images steps seed) = machine.config
config_of (Look machine images source view) = machine.config
config_of (LookOnBus machine images steps seed view) = machine.config
config_of (Outcomes machine images limits tell) = machine.config
config_of (Follow machine list images keep) = machine.config
config_of (Long machine images begin steps view keep) = machine.config

-- so many events of a run that is looked at by a seed: 2^40 where it is counted, and else 4,194,304
abbrev pub most_steps : View → ℕ
most_steps (Count csv) = count_limit
most_steps (Rows every) = count_limit
most_steps (Consoles csv) = count_limit
most_steps _ = text_limit

abbrev pub IsFew : View → Source → Type 0
IsFew view (Seed steps seed) = steps ≤ most_steps view
IsFew view (Schedule name) = Unit {0}

-- only a long run's consoles are told
abbrev pub IsNear : View → Type 0
IsNear (Trace from to states) = (from ≤ text_limit) × (to ≤ text_limit)
IsNear (Count csv) = Unit {0}
IsNear (Rows every) = (1 ≤ every) × (every ≤ count_limit)
IsNear (Consoles csv) = ⊥
IsNear (State events) = events ≤ text_limit

-- and on the bus no totals are told as it goes
abbrev pub IsNearOnBus : View → Type 0
IsNearOnBus (Rows every) = ⊥
IsNearOnBus view = IsNear view

-- a run that goes on from a checkpoint
abbrev pub IsResumed : Begin → Type 0
IsResumed (begin.Seed seed) = ⊥
IsResumed (begin.Checkpoint name) = Unit {0}

-- a long run is counted, at its end or as it goes, or its consoles are told, or its state is shown, or its trace from a checkpoint on,
-- and then it isn't written down
abbrev pub IsLongView : View → Begin → (keep : Option Text) → Type 0
IsLongView (Trace from to states) begin keep = (from ≤ text_limit) × (to ≤ text_limit) × IsResumed begin × (keep ≡ None)
IsLongView (Count csv) begin keep = Unit {0}
IsLongView (Rows every) begin keep = (1 ≤ every) × (every ≤ count_limit)
IsLongView (Consoles csv) begin keep = Unit {0}
IsLongView (State events) begin keep = events ≤ text_limit

-- 1 to 16 images, at most 4,194,304 events but where they are counted, 1 to 16 threads and only with a record, 1 to 1024 acts in a turn,
-- a workload's number from 1 to 2047; where there are no directories the settings have one; at least one state, and one instruction
abbrev pub AreNumbers : Command → Type 0
AreNumbers (Run machine images steps seed threads batch keep) =
    (1 ≤ length images) × (length images ≤ 16) × (steps ≤ text_limit) × IfSome threads (λ t. (1 ≤ t) × (t ≤ 16) × IsSome keep)
    × (1 ≤ batch) × (batch ≤ 1024)
AreNumbers (Replay machine schedule images) = (1 ≤ length images) × (length images ≤ 16)
AreNumbers (Serial machine list images) = (1 ≤ length images) × (length images ≤ 16)
AreNumbers (Trial config work number steps seed) = (1 ≤ number) × (number ≤ 2047) × (steps ≤ text_limit)
AreNumbers (Why machine schedule images) = (1 ≤ length images) × (length images ≤ 16)
AreNumbers (Phases machine images steps seed keep) = (1 ≤ length images) × (length images ≤ 16) × (steps ≤ text_limit)
AreNumbers (Bus machine images steps seed) =
    (1 ≤ length images) × (length images ≤ 16) × (steps ≤ text_limit) × (machine.config.dirs ≡ 1)
AreNumbers (Look machine images source view) = (1 ≤ length images) × (length images ≤ 16) × IsFew view source × IsNear view
AreNumbers (LookOnBus machine images steps seed view) =
    (1 ≤ length images) × (length images ≤ 16) × (steps ≤ text_limit) × (machine.config.dirs ≡ 1) × IsNearOnBus view
AreNumbers (Outcomes machine images limits tell) =
    (1 ≤ length images) × (length images ≤ 16) × (1 ≤ limits.states) × (1 ≤ limits.longest)
AreNumbers (Follow machine list images keep) = (1 ≤ length images) × (length images ≤ 16)
AreNumbers (Long machine images begin steps view keep) =
    (1 ≤ length images) × (length images ≤ 16) × (steps ≤ most_steps view) × IsLongView view begin keep

pub record IsInBounds (c : Command) : Type 0 where
  pub allowed : IsAllowed (config_of c)
  pub numbers : AreNumbers c

abbrev pub CommandsAreInBounds : Type 0
CommandsAreInBounds = (words : List Text) (c : Command) → IsCommand words c → IsInBounds c
