-- What a machine's state keeps to, however it came about: each clause speaks of one message, word, core, directory or TID, so that a
-- reader of a state can test it; it holds at the start, and every event keeps it.
use Rattle.std.specs.Prelude.{ℕ, ◌+◌, ◌*◌, ◌≡◌, ◌≢◌, ◌<◌, ◌≤◌, true, length, nat_le, Option, Some, None, IfSome, is_some}
use Rattle.tcc_base.specs.declared.access.CoreEnd.TheVariants.{Run}
use Rattle.rules_maps.specs.Cache.{Cache}
use Rattle.rules_maps.specs.Lines.{Lines, has_mark}
use Rattle.rules_maps.specs.Messages.{fits, line_named, IsLine}
use Rattle.rules_maps.specs.Nodes.{Node, Msg, Skip, Abort, Commit}
use Rattle.rules_maps.specs.Shape.{Shape, home}
use Rattle.rules_maps.specs.Words.{num}
use Rattle.rules_tcc.specs.State.{CoreState, Halted}
use Rattle.rules_tcc.specs.Links.{in_flight}
use Rattle.rules_tcc.specs.Step.{History}
use Rattle.theorem_serial.specs.Commits.{end_after}
use Rattle.theorem_serial.specs.InMemory.{WordInMemory}
use Rattle.theorem_serial.specs.Owners.{holder, times}
use Rattle.theorem_serial.specs.Pairs.{sum_of}
use Rattle.theorem_bounds.specs.Bounds.{AttemptCounted, most_sent}

-- the TID that a message says is given up or committed
abbrev pub tid_resolved : Msg → Option ℕ
tid_resolved (Skip t) = Some t
tid_resolved (Abort t) = Some t
tid_resolved (Commit t count) = Some t
tid_resolved _ = None

pub record GoodMessage (sh : Shape) (next : ℕ) (src dst : Node) (m : Msg) : Type 0 where
  -- Its source says such messages to its destination, and the machine has both.
  pub fits : fits sh src dst m ≡ true
  -- A line that it names is one of memory, at home at the link's directory.
  pub line : IfSome (line_named m) (IsLine sh src dst)
  -- A TID that it gives up or commits is below the next one.
  pub tid : IfSome (tid_resolved m) (λ t. t < next)

-- modified and dirty words are of lines of memory
pub record MarksInMemory (sh : Shape) (c : Cache) : Type 0 where
  pub modified : (x : ℕ) → c.modified x ≡ true → WordInMemory sh x
  pub dirty : (x : ℕ) → is_some (c.dirty x) ≡ true → WordInMemory sh x

-- a core that has halted keeps how it did
abbrev pub KeepsItsEnd : CoreState → Type 0
KeepsItsEnd s = s.phase ≡ Halted → end_after s.phase s.ended ≢ Run

-- of what a directory knows: a marked line is at home there, and an owner is a core that the machine has
pub record LinesHome (sh : Shape) (d : ℕ) (ls : Lines) : Type 0 where
  pub marked : (l : ℕ) → has_mark ls l ≡ true → home sh l ≡ d
  pub owners : (l c : ℕ) → ls.owner l ≡ Some c → c < sh.cores

-- All of it, of a state after at most so many events.
pub record Sound (sh : Shape) (events : ℕ) (h : History) : Type 0 where
  -- The vendor's next TID counts from 1, and rises by at most one with an event.
  pub next_least : 1 ≤ h.world.next
  pub next_most : h.world.next ≤ events + 1
  -- On each link at most so many messages were sent for each event.
  pub links : (src dst : Node) → length (h.world.net src dst) ≤ events * most_sent sh
  -- Each message in flight belongs where it is.
  pub messages : (src dst : Node) (k : ℕ) (m : Msg) → in_flight h.world.net src dst k ≡ Some m → GoodMessage sh h.world.next src dst m
  -- An attempt has at most as many instructions as there were events.
  pub attempts : (c : ℕ) → AttemptCounted events (h.world.cores c)
  -- What a core has written, and what it has committed and still keeps, is of memory.
  pub marks : (c : ℕ) → MarksInMemory sh (h.world.cores c).cache
  -- A core that has halted keeps how it did.
  pub ends : (c : ℕ) → KeepsItsEnd (h.world.cores c)
  -- Marked lines are at home where they are marked, and owners exist.
  pub lines : (d : ℕ) → LinesHome sh d (h.world.dirs d).lines
  -- A directory serves a TID.
  pub serves : (d : ℕ) → 1 ≤ (h.world.dirs d).serving.serving
  -- A TID is with one core, or on its way to one, or committed, or not granted yet: only one of these.
  pub once : (t : ℕ) → sum_of (holder t) sh.cores h.world 0 + times t h.commits + num (nat_le h.world.next t) ≤ 1
