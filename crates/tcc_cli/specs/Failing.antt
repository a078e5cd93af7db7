-- Why the steps of a command refuse to go on.
use Rattle.std.specs.Prelude.{ℕ, Bool, List, Ok, Err, ◌≡◌, ◌+◌, ◌<◌, ◌^◌, ◌⊎◌, Option, Some}
use Rattle.image_load.specs.Start.{Start}
use Rattle.tcc_base.specs.Settings.{Settings}
use Rattle.schedule_text.specs.Faults.{IsFirstFault}
use Rattle.schedule_text.specs.declared.fault.TextFault.{TextFault}
use Rattle.schedule_text.specs.declared.fault.TextFault.TheVariants as text
use Rattle.tcc_cli.specs.Around.{FilesAround, IsUntouched}
use Rattle.tcc_cli.specs.Comes.{Comes, HasBegun, HasRecorded, IsFaultyLine}
use Rattle.tcc_cli.specs.Commands.{record_of}
use Rattle.tcc_cli.specs.Following.{IsFollowed}
use Rattle.tcc_cli.specs.Lines.{IsCut, IsSilent, IsWhole}
use Rattle.tcc_world.specs.Page.{Written}
use Rattle.tcc_cli.specs.Lists.{IsListFault}
use Rattle.tcc_cli.specs.Refusals.{End}
use Rattle.tcc_cli.specs.Schedules.{HasOtherSettings, IsScheduleFault, RecordsOne}
use Rattle.tcc_cli.specs.declared.refusal.Refusal.{Refusal}
use Rattle.tcc_cli.specs.declared.refusal.Refusal.TheVariants.{Schedule, Store, Output, Memory}
use Rattle.tcc_msg.specs.declared.event.Event.{Event}
use Rattle.tcc_replay.specs.declared.replaying.ReplayFault.{ReplayFault}
use Rattle.tcc_replay.specs.declared.replaying.ReplayFault.TheVariants as replay
use Rattle.tcc_words.specs.declared.command.Command.{Command}
use Rattle.tcc_words.specs.declared.command.Command.TheVariants.{Look, LookOnBus, Long, Outcomes}
use Rattle.tcc_words.specs.declared.command.View.{View}
use Rattle.tcc_words.specs.declared.command.View.TheVariants.{Consoles, Rows, Trace}
use Rattle.tcc_world.specs.Faults.{Rose}

-- what faults of a text and of a replay are to the program; event i stands on line i + 3
abbrev pub text_refusal : TextFault → Refusal
text_refusal (text.Line line) = Schedule line
text_refusal text.Memory = Memory

abbrev pub replay_refusal : ReplayFault → Refusal
replay_refusal (replay.Refused i) = Schedule (i + 3)
replay_refusal replay.Memory = Memory

abbrev pub HasLine : ReplayFault → Type 0
HasLine (replay.Refused i) = i + 3 < 2 ^ 64
HasLine replay.Memory = Unit {0}

-- a fault of a schedule's text or settings
abbrev pub IsReadFault : Settings → (bytes : List ℕ) → TextFault → Type 0
IsReadFault settings bytes (text.Line line) = IsFirstFault line bytes ⊎ ((line ≡ 2) × HasOtherSettings settings bytes)
IsReadFault settings bytes text.Memory = Unit {0}

-- a schedule or a list is refused at its faulty line, or memory ran out
abbrev pub IsScheduleRefused : Start → Settings → (bytes : List ℕ) → Refusal → Type 0
IsScheduleRefused s settings bytes (Schedule line) = IsScheduleFault s settings bytes line
IsScheduleRefused s settings bytes Memory = Unit {0}
IsScheduleRefused s settings bytes _ = ⊥

abbrev pub IsListRefused : Start → (bytes : List ℕ) → Refusal → Type 0
IsListRefused s bytes (Schedule line) = IsListFault s bytes line
IsListRefused s bytes Memory = Unit {0}
IsListRefused s bytes _ = ⊥

-- the record wasn't written: the store refused to, or memory ran out before
abbrev pub IsNotWritten : (keep : Option (List ℕ)) → FilesAround → Refusal → Type 0
IsNotWritten keep f (Store name) = (keep ≡ Some name.now) × Rose (f.before.failed_writes name.now) (f.after.failed_writes name.now)
IsNotWritten keep f Memory = IsUntouched f
IsNotWritten keep f _ = ⊥

-- a run stops before its text is made; where memory runs out no contents have changed, or the record is whole
abbrev pub IsRunStopped : (IsSchedule : List Event → Type 0) → Settings → (keep : Option (List ℕ)) → FilesAround → Refusal → Type 0
IsRunStopped IsSchedule settings keep f Memory = IsUntouched f ⊎ RecordsOne IsSchedule settings keep f.before.tells f.after.contents
IsRunStopped IsSchedule settings keep f other = IsNotWritten keep f other

-- and so does a run that follows a list, which may be refused
abbrev pub IsFollowStopped : Start → (bytes : List ℕ) → Settings → (keep : Option (List ℕ)) → FilesAround → Refusal → Type 0
IsFollowStopped s bytes settings keep f (Schedule line) = IsListFault s bytes line × IsUntouched f
IsFollowStopped s bytes settings keep f other = IsRunStopped (IsFollowed s bytes) settings keep f other

-- a checkpoint is refused, at whichever line, or memory ran out
abbrev pub IsCheckpointRefused : Refusal → Type 0
IsCheckpointRefused (Schedule line) = Unit {0}
IsCheckpointRefused Memory = Unit {0}
IsCheckpointRefused _ = ⊥

-- a run that goes on from a checkpoint stops before its text is made: that is refused, or the new one wasn't written
abbrev pub IsLongStopped : (keep : Option (List ℕ)) → FilesAround → Refusal → Type 0
IsLongStopped keep f (Schedule line) = IsUntouched f
IsLongStopped keep f other = IsNotWritten keep f other

-- a text that is written when it is made, as a trace, a table of totals, consoles and a table of outcomes aren't
abbrev pub IsUntraced : View → Type 0
IsUntraced (Trace from to states) = ⊥
IsUntraced (Rows every) = ⊥
IsUntraced (Consoles csv) = ⊥
IsUntraced _ = Unit {0}

abbrev pub IsPrinted : Command → Type 0
IsPrinted (Look machine images source view) = IsUntraced view
IsPrinted (LookOnBus machine images steps seed view) = IsUntraced view
IsPrinted (Long machine images begin steps view keep) = IsUntraced view
IsPrinted (Outcomes machine images limits tell) = ⊥
IsPrinted _ = Unit {0}

-- a command stops before its text is made
abbrev pub IsStopped : Command → (files : List (List ℕ)) → FilesAround → Refusal → Type 0
IsStopped c files f (Schedule line) = IsFaultyLine c files line × IsUntouched f
IsStopped c files f Memory = IsUntouched f ⊎ HasRecorded c files f.before.tells f.after.contents
IsStopped c files f other = IsNotWritten (record_of c) f other

-- how a command ended that had these files, and what was written
abbrev pub Tells : Command → (files : List (List ℕ)) → FilesAround → Written → End → Type 0
Tells c files f o (Ok done) = (text : List ℕ) × Comes c files f.before.tells f.after.contents done text × IsWhole text o
Tells c files f o (Err Output) =
    ((done : Bool) × (text : List ℕ) × Comes c files f.before.tells f.after.contents done text × IsCut text o)
    ⊎ (HasBegun c files o × Rose o.before.faults o.after.faults × IsUntouched f)
Tells c files f o (Err Memory) = (IsStopped c files f Memory × IsSilent o) ⊎ (HasBegun c files o × IsUntouched f)
Tells c files f o (Err (Store name)) = IsStopped c files f (Store name) × (IsSilent o ⊎ HasBegun c files o)
Tells c files f o (Err other) = IsStopped c files f other × IsSilent o
