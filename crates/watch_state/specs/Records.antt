-- A record tells one part of a machine's state as it is now.
use Rattle.std.specs.Prelude.{ℕ, Bool, List, Option}
use Rattle.rules_program.specs.Plain.{Outcome}
use Rattle.rules_maps.specs.Nodes.{Node, Msg}
use Rattle.rules_tcc.specs.State.{Phase}

-- what a way holds: its line, masks of the line's words, the tag of the dirty ones or 0, and the words, of which the valid ones count
pub record Frame : Type 0 where
  pub line : ℕ
  pub valid : ℕ
  pub read : ℕ
  pub modified : ℕ
  pub dirty : ℕ
  pub tag : ℕ
  pub words : List ℕ

-- what the home of a line knows of it
pub record Known : Type 0 where
  pub home : ℕ
  pub owner : Option ℕ
  pub tag : ℕ
  pub asked : Bool
  pub mark : ℕ
  pub sharers : List ℕ

pub data Record : Type 0 where
  CoreIs : (core n pc : ℕ) → (phase : Phase) → Record  -- n: the instructions of its attempt
  Reserved : (core addr : ℕ) → Record
  EndedBy : (core : ℕ) → (outcome : Outcome) → Record
  AwaitsLine : (core line : ℕ) → (stale : Bool) → Record
  OwedBy : (core : ℕ) → (dirs : List ℕ) → Record  -- these directories owe the core a reply
  CommittedAt : (core dir tid : ℕ) → Record  -- the core's last commit at this directory
  Register : (core number value : ℕ) → Record
  SavedPc : (core pc : ℕ) → Record
  SavedRegister : (core number value : ℕ) → Record
  Holds : (core set way : ℕ) → (frame : Frame) → Record
  Spilled : (core addr value : ℕ) → Record
  DirectoryIs : (dir serving owed : ℕ) → Record
  Skipped : (dir tid : ℕ) → Record
  LineIs : (line : ℕ) → (known : Known) → Record
  HomeWord : (addr value : ℕ) → Record
  VendorIs : (next : ℕ) → Record
  InFlight : (src dst : Node) → (seq : ℕ) → (msg : Msg) → Record
