-- The state of the protocol: what each node knows, and the messages between them. Nothing that a rule doesn't read is kept:
-- what was granted, given up or committed follows from the events.
use Rattle.std.specs.Prelude.{ℕ, Bool, false, List, [], Option, None}
use Rattle.tcc_base.specs.declared.access.Load.{Load}
use Rattle.tcc_base.specs.declared.access.Stored.{Stored}
use Rattle.rules_program.specs.Program.{Local}
use Rattle.rules_program.specs.Plain.{Outcome, Goes}
use Rattle.rules_maps.specs.Nodes.{Node, Msg}
use Rattle.rules_maps.specs.Cache.{Cache, empty_cache}
use Rattle.rules_maps.specs.Spilled.{Spilled, none_spilled}
use Rattle.rules_maps.specs.Serving.{Serving, first_serving}
use Rattle.rules_maps.specs.Lines.{Lines, no_lines}

-- how far a core has come with its transaction
pub data Phase : Type 0 where
  Running : Phase  -- it executes
  AwaitTid : Phase  -- the transaction has ended; a TID was asked for
  DoomedTid : Phase  -- it was violated since, and will give up the TID that comes
  Probing : (tid : ℕ) → Phase  -- it asks the directories that it wrote or read to serve its TID
  Ready : (tid : ℕ) → Phase  -- all do: it may commit
  Overflowing : (tid : Option ℕ) → Phase  -- it needs room, and asks to commit before all others
  Solo : (tid : ℕ) → Phase  -- it may: all directories serve its TID until it ends
  Halted : Phase

-- the line that a core asked for; stale where it was invalidated since
pub record Awaited : Type 0 where
  pub line : ℕ
  pub stale : Bool

pub record CoreState : Type 0 where
  pub local : Local  -- registers and pc
  pub saved : Local  -- the checkpoint: as the last commit left them
  pub n : ℕ  -- the attempt: its instructions, loads, stores and console bytes so far
  pub loads : List Load
  pub stores : List Stored
  pub console : List ℕ
  pub ended : Outcome  -- how the attempt ended, and how a halted core did
  pub phase : Phase
  pub owing : ℕ → Bool  -- the directories that owe a reply
  pub cache : Cache
  pub spilled : Spilled
  pub awaited : Option Awaited
  pub last_commit : ℕ → ℕ  -- for each directory the TID of the core's last commit there, or 0

pub record DirState : Type 0 where
  pub words : ℕ → ℕ  -- the home words
  pub serving : Serving
  pub lines : Lines
  pub owed : ℕ  -- how many acknowledgements are owed

-- what was sent on a link, each None once it is consumed; a message's number is its index
abbrev pub Link : Type 0
Link = List (Option Msg)

pub record World : Type 0 where
  pub cores : ℕ → CoreState
  pub dirs : ℕ → DirState
  pub next : ℕ  -- the vendor's next TID
  pub net : Node → Node → Link  -- source, destination

unfoldable pub core_start : Local → CoreState
core_start local = record {
  local = local;
  saved = local;
  n = 0;
  loads = [];
  stores = [];
  console = [];
  ended = Goes;
  phase = Running;
  owing = λ d. false;
  cache = empty_cache;
  spilled = none_spilled;
  awaited = None;
  last_commit = λ d. 0;
}

unfoldable pub dir_start : (ℕ → ℕ) → DirState
dir_start ram = record { words = ram; serving = first_serving; lines = no_lines; owed = 0 }

unfoldable pub vendor_start : ℕ
vendor_start = 1

-- every core runs with empty frames, every directory serves TID 1, home words are the loaded words, nothing is in flight
unfoldable pub start : (ℕ → Local) → (ram : ℕ → ℕ) → World
start entries ram = record {
  cores = λ c. core_start (entries c);
  dirs = λ d. dir_start ram;
  next = vendor_start;
  net = λ src dst. [];
}
