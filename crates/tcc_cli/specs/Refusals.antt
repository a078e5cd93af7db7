-- Why the program refuses: the status that it ends with and the line that it writes for it.
use Rattle.std.specs.Prelude.{ℕ, Bool, true, false, List, ◌++◌, codes, Result, Ok, Err}
use Rattle.std.specs.Fmt.{decimal}
use Rattle.report_text.specs.Lines.{newline}
use Rattle.tcc_cli.specs.declared.refusal.ImageFault.{ImageFault}
use Rattle.tcc_cli.specs.declared.refusal.Reader.{Reader}
use Rattle.tcc_cli.specs.declared.refusal.Reader.TheVariants as reader
use Rattle.tcc_cli.specs.declared.refusal.Refusal.{Refusal}
use Rattle.tcc_cli.specs.declared.refusal.Refusal.TheVariants as why
use Rattle.tcc_cli.specs.declared.status.Status.{Status}
use Rattle.tcc_cli.specs.declared.status.Status.TheVariants.{Done, Stopped, Words, Image, Schedule, StoreFault, SinkFault, Memory}
use Rattle.tcc_words.specs.Fields.{field_word}
use Rattle.tcc_words.specs.declared.command.WordsFault.{WordsFault}
use Rattle.tcc_words.specs.declared.command.WordsFault.TheVariants as fault

abbrev pub reader_word : Reader → List ℕ
reader_word reader.Elf = codes "elf"
reader_word reader.Load = codes "load"

abbrev pub fault_line : ImageFault → List ℕ
fault_line f =
    codes "image " ++ decimal f.image ++ codes " " ++ reader_word f.by ++ codes " " ++ decimal f.number ++ codes " "
    ++ decimal f.place ++ newline

abbrev pub cause_line : Refusal → List ℕ
cause_line why.Words = codes "words" ++ newline
cause_line (why.Value field) = codes "value " ++ field_word field ++ newline
cause_line (why.Image fault) = fault_line fault
cause_line (why.Schedule line) = codes "schedule line " ++ decimal line ++ newline
cause_line (why.Store name) = codes "store " ++ name.now ++ newline
cause_line why.Output = codes "output" ++ newline
cause_line why.Memory = codes "memory" ++ newline

-- the line that is written to standard error
unfoldable pub line_of : Refusal → List ℕ
line_of r = codes "tcc: " ++ cause_line r

abbrev pub refusal_status : Refusal → Status
refusal_status why.Words = Words
refusal_status (why.Value field) = Words
refusal_status (why.Image fault) = Image
refusal_status (why.Schedule line) = Schedule
refusal_status (why.Store name) = StoreFault
refusal_status why.Output = SinkFault
refusal_status why.Memory = Memory

-- what a fault of the words is to the program
abbrev pub words_refusal : WordsFault → Refusal
words_refusal fault.Words = why.Words
words_refusal (fault.Value field) = why.Value field
words_refusal fault.Memory = why.Memory

-- how a call ends: with whether the machine is done, or refused
abbrev pub End : Type 0
End = Result Bool Refusal

abbrev pub status_of : End → Status
status_of (Ok true) = Done
status_of (Ok false) = Stopped
status_of (Err r) = refusal_status r
