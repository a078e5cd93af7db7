-- What a reader answers, and which line of some bytes is the first that the grammar doesn't allow in its place.
use Rattle.std.specs.Prelude.{ℕ, List, length, take, ◌++◌, ◌<◌, ◌≤◌, ◌-◌, ◌≡◌, Result, Ok, Err}
use Rattle.tcc_msg.specs.declared.event.Schedule.{Schedule}
use Rattle.schedule_text.specs.declared.fault.TextFault.{TextFault}
use Rattle.schedule_text.specs.declared.fault.TextFault.TheVariants.{Line, Memory}
use Rattle.schedule_text.specs.Grammar.{joined, lines_of, text_of}
use Rattle.schedule_text.specs.WellFormed.{IsWellFormed}

-- the bytes begin with the first n lines of the text of a well-formed schedule
pub record Begins (n : ℕ) (bytes : List ℕ) : Type 0 where
  pub schedule : Schedule
  pub rest : List ℕ
  pub formed : IsWellFormed schedule
  pub there : n ≤ length (lines_of schedule)
  pub same : bytes ≡ joined (take n (lines_of schedule)) ++ rest

-- Line k, counted from 1, is the first faulty one: the bytes are no text, the lines before line k begin the text of a well-formed
-- schedule, and with line k they don't. So a line that is missing, or that isn't ended, is faulty.
pub record IsFirstFault (k : ℕ) (bytes : List ℕ) : Type 0 where
  pub counted : 0 < k
  pub refused : (s : Schedule) → IsWellFormed s → bytes ≡ text_of s → ⊥
  pub before : Begins (k - 1) bytes
  pub faulty : Begins k bytes → ⊥

-- the bytes begin with the first two lines and an event's line of the text of a well-formed schedule
pub record HasEvent (bytes : List ℕ) : Type 0 where
  pub front : Begins 3 bytes
  pub event : 0 < length front.schedule.events

-- this schedule is read, unless memory runs out
abbrev pub Gives : Result Schedule TextFault → Schedule → Type 0
Gives (Ok read) s = read ≡ s
Gives (Err (Line k)) s = ⊥
Gives (Err Memory) s = Unit {0}

-- the fault, if it is in the text
abbrev pub IfLine : Result Schedule TextFault → (ℕ → Type 0) → Type 0
IfLine (Ok read) P = Unit {0}
IfLine (Err (Line k)) P = P k
IfLine (Err Memory) P = Unit {0}
