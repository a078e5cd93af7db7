-- What is proved of every run: for every shape, program, start and list of events that is a run.
use Rattle.std.specs.Prelude.{ℕ, ◌≡◌, ◌<◌, List, [], IfSome, true, false, ◌≤◌, ◌||◌}
use Rattle.rules_program.specs.Program.{Local, Program}
use Rattle.rules_maps.specs.Nodes.{Core, Dir, Vendor, Event}
use Rattle.rules_maps.specs.Shape.{Shape, home}
use Rattle.rules_maps.specs.Lines.{has_mark}
use Rattle.rules_maps.specs.Cache.{writes_at, reads_at}
use Rattle.rules_tcc.specs.State.{World, start}
use Rattle.rules_tcc.specs.Step.{run}
use Rattle.theorem_serial.specs.Count.{Grants, Resolves, InvsNot, InvsAway, live}
use Rattle.theorem_serial.specs.Marks.{KeptMarks}
use Rattle.theorem_serial.specs.Pairs.{pair}
use Rattle.theorem_serial.specs.Owners.{grants_from, KeptOwners, LastGranted, SparesCommitter}
use Rattle.theorem_serial.specs.Owed.{OwedAt}
use Rattle.theorem_serial.specs.Probes.{tid_of, asks_dir, may_commit}
use Rattle.theorem_serial.specs.Tids.{opens, ResolvedAt, RequestOf}

-- P holds of every state that a run reaches
abbrev pub Always : (Shape → World → Type 0) → Type 0
Always P = (sh : Shape) (p : Program) (entries : ℕ → Local) (ram : ℕ → ℕ) (es : List Event)
    → IfSome (run sh p (start entries ram) es) (λ r. P sh r.world)

-- At each directory each TID is exactly one of: not granted yet; on its way to its core, or open; given up or committing and on
-- its way to the directory; passed, kept as skipped, or served while acknowledgements are owed for it.
abbrev pub OneWay : Shape → World → Type 0
OneWay sh w = (d t : ℕ) → d < sh.dirs → ResolvedAt sh w d t

-- Exactly one request or grant is in flight for a core that waits for a TID, and none for another.
abbrev pub OneRequest : Shape → World → Type 0
OneRequest sh w = (c d : ℕ) → RequestOf (pair w c d)

-- a TID that a directory has passed was granted, has come to its core, is open no more, and nothing about it is in flight
pub record Passed (sh : Shape) (w : World) (d t : ℕ) : Type 0 where
  pub granted : t < w.next
  pub came : (c : ℕ) → c < sh.cores → live (Grants t) (w.net Vendor (Core c)) ≡ 0
  pub closed : (c : ℕ) → c < sh.cores → opens (w.cores c).phase (writes_at sh (w.cores c).cache d) t ≡ false
  pub told : (c : ℕ) → c < sh.cores → live (Resolves t) (w.net (Core c) (Dir d)) ≡ 0

-- Serving never passes a TID that wasn't granted, that is open or that is committing.
abbrev pub NeverPasses : Shape → World → Type 0
NeverPasses sh w = (d t : ℕ) → d < sh.dirs → t < (w.dirs d).serving.serving → Passed sh w d t

-- What a directory is owed is what is in flight: its invalidations, and acknowledgements to it. The invalidations carry the
-- served TID, and lines that are at home there.
pub record OwedInFlight (sh : Shape) (w : World) : Type 0 where
  pub owed : (d : ℕ) → OwedAt sh w d
  pub served : (c d : ℕ) → live (InvsNot (w.dirs d).serving.serving) (w.net (Dir d) (Core c)) ≡ 0
  pub at_home : (c d : ℕ) → live (InvsAway sh.dirs d) (w.net (Dir d) (Core c)) ≡ 0
  pub marked_at_home : (d l : ℕ) → has_mark (w.dirs d).lines l ≡ true → home sh l ≡ d

-- A directory that was asked and owes a core no reply serves the core's TID or a later one, and just this TID where it is open
-- there: where the core writes, and everywhere for one that overflowed. None owes a reply to a core that may commit.
pub record Served (sh : Shape) (w : World) : Type 0 where
  pub reached : (c d : ℕ) → c < sh.cores → d < sh.dirs
      → asks_dir (w.cores c).phase (writes_at sh (w.cores c).cache d || reads_at sh (w.cores c).cache d) ≡ true
      → (w.cores c).owing d ≡ false → tid_of (w.cores c).phase ≤ (w.dirs d).serving.serving
  pub serves : (c d t : ℕ) → c < sh.cores → d < sh.dirs → opens (w.cores c).phase (writes_at sh (w.cores c).cache d) t ≡ true
      → (w.cores c).owing d ≡ false → (w.dirs d).serving.serving ≡ t
  pub replied : (c d : ℕ) → c < sh.cores → d < sh.dirs → may_commit (w.cores c).phase ≡ true → (w.cores c).owing d ≡ false

-- Along a run the granted TIDs count from 1, so that each is granted once; each is with one core at most, on its way to a core,
-- committed once or given up; the TIDs of the commits rise strictly, and each was granted to the core that committed.
abbrev pub CommitsOnce : Type 0
CommitsOnce = (sh : Shape) (p : Program) (entries : ℕ → Local) (ram : ℕ → ℕ) (es : List Event)
    → IfSome (run sh p (start entries ram) es)
    (λ r. KeptOwners sh (grants_from sh p es (record { world = start entries ram; commits = [] })) r.world r.commits)

-- The TID that a core has, or that is on its way to it, is the last that was granted to it: so the core's commits have smaller ones.
abbrev pub HoldsLast : Type 0
HoldsLast = (sh : Shape) (p : Program) (entries : ℕ → Local) (ram : ℕ → ℕ) (es : List Event)
    → IfSome (run sh p (start entries ram) es)
    (λ r. LastGranted (grants_from sh p es (record { world = start entries ram; commits = [] })) r.world)

-- A Commit in flight is from the core that its TID was granted to, and no invalidation of the served TID is in flight to its core.
abbrev pub SparesItsCommitter : Type 0
SparesItsCommitter = (sh : Shape) (p : Program) (entries : ℕ → Local) (ram : ℕ → ℕ) (es : List Event)
    → IfSome (run sh p (start entries ram) es)
    (λ r. SparesCommitter sh (grants_from sh p es (record { world = start entries ram; commits = [] })) r.world)

-- The Marks of a core's TID, in flight and handled together, are one of each line that the core stores at a directory that has
-- replied, and there is no other; a TID that hasn't come yet or that is skipped has none. A Mark, and a word on what becomes of
-- its TID, are from the core that the TID was granted to.
abbrev pub MarksAreStored : Type 0
MarksAreStored = (sh : Shape) (p : Program) (entries : ℕ → Local) (ram : ℕ → ℕ) (es : List Event)
    → IfSome (run sh p (start entries ram) es)
    (λ r. KeptMarks sh (grants_from sh p es (record { world = start entries ram; commits = [] })) r.world)
