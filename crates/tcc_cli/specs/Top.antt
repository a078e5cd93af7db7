-- What the program's answers say: how the call ended, its cause, and what was written.
use Rattle.std.specs.Prelude.{ℕ, Bool, List, ◌≡◌, ◌≢◌, ◌⊎◌, Some, None, Ok, Err}
use Rattle.tcc_cli.specs.Around.{Around, IsUntouched}
use Rattle.tcc_cli.specs.Comes.{Comes, HasBegun, HasRecorded, IsFaultyLine}
use Rattle.tcc_cli.specs.Commands.{fault_from, files_of, record_of}
use Rattle.tcc_cli.specs.Lines.{IsTold, IsCut, IsWhole, IsSilent}
use Rattle.tcc_world.specs.Page.{Written}
use Rattle.tcc_cli.specs.Reading.{AreGiven, FailedFirst}
use Rattle.tcc_cli.specs.Refusals.{End, line_of, status_of}
use Rattle.tcc_cli.specs.declared.refusal.Refusal.TheVariants as why
use Rattle.tcc_cli.specs.declared.status.Status.{Status}
use Rattle.tcc_words.specs.Asked.{IsCommand, IsRefused}
use Rattle.tcc_words.specs.declared.command.Command.{Command}
use Rattle.tcc_words.specs.declared.command.WordsFault.TheVariants as fault
use Rattle.tcc_world.specs.Faults.{Rose}

-- the files that a command reads were read, with these bytes where the store tells them, and the images are accepted
pub record Started (c : Command) (w : Around) (files : List (List ℕ)) : Type 0 where
  pub given : AreGiven w.files.before.contents (files_of c) files
  pub images : fault_from c files ≡ None

-- the first file that wasn't read
abbrev pub FailedToRead : Command → Around → (name : List ℕ) → Type 0
FailedToRead c w name =
    FailedFirst w.files.before.contents (files_of c) w.files.before.failed_reads w.files.after.failed_reads name × IsUntouched w.files

-- the record that wasn't written, at the end of the run
abbrev pub FailedToWrite : Command → Around → (name : List ℕ) → Type 0
FailedToWrite c w name =
    ((files : List (List ℕ)) × Started c w files) × (record_of c ≡ Some name)
    × Rose (w.files.before.failed_writes name) (w.files.after.failed_writes name)

-- what is written while a run goes on was begun
abbrev pub HasToldPart : Command → Around → Type 0
HasToldPart c w = (files : List (List ℕ)) × Started c w files × HasBegun c files w.out

-- and broke off
abbrev pub HasWrittenPart : Command → Around → Type 0
HasWrittenPart c w = HasToldPart c w × IsUntouched w.files

-- how a command ends, and why; where memory ran out, no contents have changed, or the record is whole; what is written as it goes may have
-- been begun
abbrev pub EndsOf : Command → Around → End → Type 0
EndsOf c w (Ok done) =
    (files : List (List ℕ)) × (text : List ℕ) × Started c w files
    × Comes c files w.files.before.tells w.files.after.contents done text × IsWhole text w.out
EndsOf c w (Err why.Words) = ⊥
EndsOf c w (Err (why.Value field)) = ⊥
EndsOf c w (Err (why.Image bad)) =
    ((files : List (List ℕ)) × AreGiven w.files.before.contents (files_of c) files × (fault_from c files ≡ Some bad))
    × IsUntouched w.files × IsSilent w.out
EndsOf c w (Err (why.Schedule line)) =
    ((files : List (List ℕ)) × Started c w files × IsFaultyLine c files line) × IsUntouched w.files × IsSilent w.out
EndsOf c w (Err (why.Store name)) =
    ((FailedToRead c w name.now ⊎ FailedToWrite c w name.now) × IsSilent w.out) ⊎ (FailedToWrite c w name.now × HasToldPart c w)
EndsOf c w (Err why.Output) =
    ((files : List (List ℕ)) × (done : Bool) × (text : List ℕ) × Started c w files
    × Comes c files w.files.before.tells w.files.after.contents done text × IsCut text w.out)
    ⊎ (HasWrittenPart c w × Rose w.out.before.faults w.out.after.faults)
EndsOf c w (Err why.Memory) =
    ((IsUntouched w.files ⊎ ((files : List (List ℕ)) × Started c w files × HasRecorded c files w.files.before.tells w.files.after.contents))
    × IsSilent w.out)
    ⊎ HasWrittenPart c w

-- words that are no command are refused; they may not have been read for want of memory
abbrev pub IsTurnedAway : List (List ℕ) → End → Type 0
IsTurnedAway words (Err why.Words) = IsRefused words fault.Words
IsTurnedAway words (Err (why.Value field)) = IsRefused words (fault.Value field)
IsTurnedAway words (Err why.Memory) = Unit {0}
IsTurnedAway words _ = ⊥

-- the cause of each end: a command's, or the words'
abbrev pub Ends : List (List ℕ) → Around → End → Type 0
Ends words w end =
    ((c : Command) × IsCommand words c × EndsOf c w end) ⊎ (IsTurnedAway words end × IsUntouched w.files × IsSilent w.out)

-- what is written to the output for errors: the line of a refusal, or nothing
abbrev pub Notes : (err : Written) → End → Type 0
Notes err (Ok done) = IsSilent err
Notes err (Err refusal) = IsTold (line_of refusal) err

-- no name's contents changed but the record's
abbrev pub OthersStay : List (List ℕ) → Around → Type 0
OthersStay words w =
    (name : List ℕ) → ((c : Command) → IsCommand words c → record_of c ≢ Some name)
    → w.files.after.contents name ≡ w.files.before.contents name

-- the status is that of an end with its cause
pub record Caused (words : List (List ℕ)) (w : Around) (err : Written) (status : Status) : Type 0 where
  pub end : End
  pub status_is : status ≡ status_of end
  pub ends : Ends words w end
  pub notes : Notes err end
  pub others : OthersStay words w
