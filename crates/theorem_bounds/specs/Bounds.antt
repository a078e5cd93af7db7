-- What stays in bounds in every state that a run reaches: counts, by the number of events; nodes, by those that the machine has;
-- lines, by those of memory; TIDs, by those that were granted. So a machine made of code can hold them in numbers of a fixed width.
use Rattle.std.specs.Prelude.{ℕ, ◌+◌, ◌*◌, ◌≡◌, ◌<◌, ◌≤◌, true, List, length, Contains, Some, IfSome, is_some}
use Rattle.tcc_base.specs.declared.access.Commit.{Commit as Noted}
use Rattle.tcc_base.specs.declared.access.Load.{Load}
use Rattle.tcc_base.specs.declared.access.Stored.{Stored}
use Rattle.rules_program.specs.Program.{Local, Program}
use Rattle.rules_maps.specs.Cache.{Cache}
use Rattle.rules_maps.specs.Nodes.{Node, Event}
use Rattle.rules_maps.specs.Shape.{Shape, lines}
use Rattle.rules_tcc.specs.State.{CoreState, DirState, start}
use Rattle.rules_tcc.specs.Step.{History, run}
use Rattle.theorem_serial.specs.InMemory.{StaysInMemory, WordInMemory}
use Rattle.theorem_serial.specs.Tids.{has_tid}
use Rattle.theorem_bounds.specs.Messages.{MessagesInBounds}
use Rattle.rules_maps.specs.Messages.{WasGranted}

-- at most so many instructions, and of loads, stores and printed bytes at most one each for an instruction
pub record IsCounted (most n : ℕ) (ls : List Load) (ss : List Stored) (bytes : List ℕ) : Type 0 where
  pub instructions : n ≤ most
  pub loads : length ls ≤ n
  pub stores : length ss ≤ n
  pub console : length bytes ≤ n

-- an attempt, and a commit, of at most so many instructions
abbrev pub AttemptCounted : (most : ℕ) → CoreState → Type 0
AttemptCounted most s = IsCounted most s.n s.loads s.stores s.console

abbrev pub CommitCounted : (most : ℕ) → Noted → Type 0
CommitCounted most x = IsCounted most x.n x.loads x.stores x.console

-- what is kept in a cache is of words in memory, and so is each frame
pub record CacheInMemory (sh : Shape) (c : Cache) : Type 0 where
  pub at : (s y l : ℕ) → c.at s y ≡ Some l → l < lines sh
  pub held : (l : ℕ) → c.held l ≡ true → l < lines sh
  pub valid : (x : ℕ) → is_some (c.value x) ≡ true → WordInMemory sh x
  pub read : (x : ℕ) → c.read x ≡ true → WordInMemory sh x
  pub modified : (x : ℕ) → c.modified x ≡ true → WordInMemory sh x
  pub dirty : (x : ℕ) → is_some (c.dirty x) ≡ true → WordInMemory sh x

-- what one core holds
pub record CoreInBounds (sh : Shape) (events next : ℕ) (s : CoreState) : Type 0 where
  -- Its attempt has at most as many instructions as there were events.
  pub attempt : AttemptCounted events s
  -- The TID that it has was granted.
  pub tid : (t : ℕ) → has_tid s.phase t ≡ true → WasGranted next t
  -- Its cache, the words that it has spilled and the line that it awaits are of memory.
  pub cache : CacheInMemory sh s.cache
  pub spilled : (x : ℕ) → is_some (s.spilled x) ≡ true → WordInMemory sh x
  pub awaited : IfSome s.awaited (λ a. a.line < lines sh)

-- a directory serves a TID that was granted, or the one that is granted next
pub record ServesInBounds (next : ℕ) (s : DirState) : Type 0 where
  pub least : 1 ≤ s.serving.serving
  pub most : s.serving.serving ≤ next

-- what an event at most sends to one node: two messages of each line, and two more
abbrev pub most_sent : Shape → ℕ
most_sent sh = 2 * lines sh + 2

-- All of it, after these events.
pub record IsBounded (sh : Shape) (es : List Event) (h : History) : Type 0 where
  -- The vendor's next TID counts from 1, and rises by at most one with an event.
  pub next_least : 1 ≤ h.world.next
  pub next_most : h.world.next ≤ length es + 1
  -- What a core holds is in bounds.
  pub cores : (c : ℕ) → CoreInBounds sh (length es) h.world.next (h.world.cores c)
  -- A directory serves a TID up to the next one.
  pub dirs : (d : ℕ) → d < sh.dirs → ServesInBounds h.world.next (h.world.dirs d)
  -- Each message in flight is between nodes that the machine has, of a line of memory and of a TID that was granted.
  pub messages : MessagesInBounds sh h.world
  -- On each link at most so many were sent for each event, so a message's number fits too.
  pub links : (src dst : Node) → length (h.world.net src dst) ≤ length es * most_sent sh
  -- There are at most as many commits as events, each with a TID that was granted and at most as many instructions.
  pub number : length h.commits ≤ length es
  pub granted : (x : Noted) → Contains h.commits x → WasGranted h.world.next x.tid.0
  pub counted : (x : Noted) → Contains h.commits x → CommitCounted (length es) x

-- So it is after every run of a machine with a directory, of a program whose accesses lie in memory.
abbrev pub RunsAreBounded : Type 0
RunsAreBounded =
    (sh : Shape) (p : Program) (entries : ℕ → Local) (ram : ℕ → ℕ) (es : List Event) → 1 ≤ sh.dirs → StaysInMemory sh p
    → IfSome (run sh p (start entries ram) es) (IsBounded sh es)
