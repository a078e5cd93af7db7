-- How a record is written: its key, which says of what part of the state it is, its value, and a line feed. Numbers and masks are decimal;
-- addresses, pcs and values are eight lower-case hexadecimal digits.
use Rattle.std.specs.Prelude.{ℕ, Bool, List, [], ◌∷◌, ◌++◌, Option, Some, None, codes}
use Rattle.std.specs.Fmt.{decimal}
use Rattle.std.specs.List.{flat_map}
use Rattle.rules_program.specs.Plain.{Outcome, Goes, Ended, Halted, Trapped}
use Rattle.rules_maps.specs.Words.{num}
use Rattle.schedule_text.specs.Grammar.{newline}
use Rattle.base_digits.specs.Digits.{hex}
use Rattle.watch_trace.specs.Lines.{name_words}
use Rattle.watch_trace.specs.Words.{message_words, phase_words, value_words}
use Rattle.watch_state.specs.Records.{Frame, Known, Record, CoreIs, Reserved, EndedBy, AwaitsLine, OwedBy, CommittedAt, Register, SavedPc}
use Rattle.watch_state.specs.Records.{SavedRegister, Holds, Spilled, DirectoryIs, Skipped, LineIs, HomeWord, VendorIs, InFlight}

-- numbers, each behind a space
abbrev pub number_word : ℕ → List ℕ
number_word n = codes " " ++ decimal n

abbrev pub number_words : List ℕ → List ℕ
number_words = flat_map number_word

-- the same, or "none"
abbrev pub numbers_or_none : List ℕ → List ℕ
numbers_or_none [] = codes " none"
numbers_or_none (n ∷ ns) = number_words (n ∷ ns)

abbrev pub number_or_none : Option ℕ → List ℕ
number_or_none None = codes "none"
number_or_none (Some n) = decimal n

-- a yes is 1, a no is 0
abbrev pub flag_word : Bool → List ℕ
flag_word b = decimal (num b)

abbrev pub outcome_words : Outcome → List ℕ
outcome_words Goes = []
outcome_words Ended = codes " end"
outcome_words (Halted code) = codes " halt " ++ decimal code
outcome_words (Trapped cause) = codes " trap " ++ decimal cause

-- the record's key
abbrev pub key_words : Record → List ℕ
key_words (CoreIs core n pc phase) = codes "core " ++ decimal core
key_words (Reserved core addr) = codes "reserved " ++ decimal core
key_words (EndedBy core outcome) = codes "ended " ++ decimal core
key_words (AwaitsLine core line stale) = codes "awaits " ++ decimal core
key_words (OwedBy core dirs) = codes "owing " ++ decimal core
key_words (CommittedAt core dir tid) = codes "last " ++ decimal core ++ codes " " ++ decimal dir
key_words (Register core number value) = codes "reg " ++ decimal core ++ codes " " ++ decimal number
key_words (SavedPc core pc) = codes "saved " ++ decimal core ++ codes " pc"
key_words (SavedRegister core number value) = codes "saved " ++ decimal core ++ codes " " ++ decimal number
key_words (Holds core set way frame) = codes "frame " ++ decimal core ++ codes " " ++ decimal set ++ codes " " ++ decimal way
key_words (Spilled core addr value) = codes "spilled " ++ decimal core ++ codes " " ++ hex 8 addr
key_words (DirectoryIs dir serving owed) = codes "dir " ++ decimal dir
key_words (Skipped dir tid) = codes "skips " ++ decimal dir ++ codes " " ++ decimal tid
key_words (LineIs line known) = codes "line " ++ decimal line
key_words (HomeWord addr value) = codes "home " ++ hex 8 addr
key_words (VendorIs next) = codes "vendor"
key_words (InFlight src dst seq msg) = codes "flight " ++ name_words src dst seq

unfoldable pub frame_words : Frame → List ℕ
frame_words f =
    codes " line " ++ decimal f.line ++ codes " valid " ++ decimal f.valid ++ codes " read " ++ decimal f.read
    ++ codes " modified " ++ decimal f.modified ++ codes " dirty " ++ decimal f.dirty ++ codes " tag " ++ decimal f.tag
    ++ value_words f.valid f.words

-- a line's home, and its owner
unfoldable pub owner_words : (home : ℕ) → (owner : Option ℕ) → List ℕ
owner_words home owner = codes " home " ++ decimal home ++ codes " owner " ++ number_or_none owner

-- its tag, whether its owner was asked, and its mark
unfoldable pub mark_words : (tag : ℕ) → (asked : Bool) → (mark : ℕ) → List ℕ
mark_words tag asked mark = codes " tag " ++ decimal tag ++ codes " asked " ++ flag_word asked ++ codes " mark " ++ decimal mark

abbrev pub known_words : Known → List ℕ
known_words k = owner_words k.home k.owner ++ mark_words k.tag k.asked k.mark ++ codes " sharers" ++ numbers_or_none k.sharers

-- the record's value
abbrev pub value_of : Record → List ℕ
value_of (CoreIs core n pc phase) = codes " n " ++ decimal n ++ codes " pc " ++ hex 8 pc ++ codes " phase " ++ phase_words phase
value_of (Reserved core addr) = codes " " ++ hex 8 addr
value_of (EndedBy core outcome) = outcome_words outcome
value_of (AwaitsLine core line stale) = codes " line " ++ decimal line ++ codes " stale " ++ flag_word stale
value_of (OwedBy core dirs) = number_words dirs
value_of (CommittedAt core dir tid) = codes " " ++ decimal tid
value_of (Register core number value) = codes " " ++ hex 8 value
value_of (SavedPc core pc) = codes " " ++ hex 8 pc
value_of (SavedRegister core number value) = codes " " ++ hex 8 value
value_of (Holds core set way frame) = frame_words frame
value_of (Spilled core addr value) = codes " " ++ hex 8 value
value_of (DirectoryIs dir serving owed) = codes " serves " ++ decimal serving ++ codes " owed " ++ decimal owed
value_of (Skipped dir tid) = []
value_of (LineIs line known) = known_words known
value_of (HomeWord addr value) = codes " " ++ hex 8 value
value_of (VendorIs next) = codes " next " ++ decimal next
value_of (InFlight src dst seq msg) = codes " " ++ message_words msg

unfoldable pub record_line : Record → List ℕ
record_line r = key_words r ++ value_of r ++ newline

-- the lines of records, one after another
unfoldable pub record_lines : List Record → List ℕ
record_lines rs = flat_map record_line rs

-- with the same bytes before each line
unfoldable pub led_lines : (lead : List ℕ) → List Record → List ℕ
led_lines lead rs = flat_map (λ r. lead ++ record_line r) rs
