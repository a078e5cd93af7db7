-- What is proved of the ways of every run. TIDs count from 1.
use Rattle.std.specs.Prelude.{ℕ, ◌+◌, ◌≡◌, ◌<◌, ◌≤◌, Bool, true, false, List, [], Contains, IfSome, ◌⊎◌, nat_lt, nat_le}
use Rattle.tcc_base.specs.declared.access.Commit.{Commit as Noted}
use Rattle.rules_program.specs.Program.{Local, Program}
use Rattle.rules_maps.specs.Words.{num}
use Rattle.rules_maps.specs.Nodes.{Core, Dir, Vendor, Event}
use Rattle.rules_maps.specs.Serving.{is_skipped}
use Rattle.rules_maps.specs.Shape.{Shape}
use Rattle.rules_tcc.specs.State.{World, start}
use Rattle.rules_tcc.specs.Step.{History, run}
use Rattle.theorem_serial.specs.Count.{Grants, Skips, Aborts, Commits, live}
use Rattle.theorem_serial.specs.Owners.{times, holder}
use Rattle.theorem_serial.specs.Pairs.{Pair, pair, sum_of}
use Rattle.theorem_serial.specs.Told.{KeptLive, KeptCommitted}
use Rattle.theorem_serial.specs.Ways.{Way, Untold, Skipped, Aborted, Committed, Ways, ways_from, first_ways, part_in}
use Rattle.theorem_serial.specs.Worked.{worked_at, KeptWorked}

-- P holds of the ways and the state of every run
abbrev pub AlwaysTold : (Shape → Ways → History → Type 0) → Type 0
AlwaysTold P = (sh : Shape) (p : Program) (entries : ℕ → Local) (ram : ℕ → ℕ) (es : List Event)
    → IfSome (run sh p (start entries ram) es)
    (λ r. P sh (ways_from sh p es first_ways (record { world = start entries ram; commits = [] })) r)

abbrev pub is_untold : Way → Bool
is_untold Untold = true
is_untold _ = false

abbrev pub is_given_up : Way → Bool
is_given_up Skipped = true
is_given_up Aborted = true
is_given_up _ = false

-- A TID is untold at a directory exactly where it isn't granted yet, is on its way to its core, or is open there: in one of
-- these places it is once, and in none of them where it was told.
abbrev pub UntoldWhereOpen : Shape → Ways → History → Type 0
UntoldWhereOpen sh ys h = (d t : ℕ) → d < sh.dirs → 1 ≤ t → sum_of (part_in Untold sh d t) sh.cores h.world d + num (nat_le h.world.next t)
    ≡ num (is_untold (ys d t))

-- A TID that was granted and is untold somewhere is with a core of the machine, or on its way to it.
abbrev pub UntoldIsLive : Shape → Ways → History → Type 0
UntoldIsLive sh ys h = (d t : ℕ) → d < sh.dirs → 1 ≤ t → t < h.world.next → ys d t ≡ Untold
    → (c : ℕ) × (c < sh.cores) × (1 ≤ holder t (pair h.world c d))

-- its Commit was sent, and is on its way no more
pub record Settled (sh : Shape) (ys : Ways) (w : World) (d t : ℕ) : Type 0 where
  pub committed : ys d t ≡ Committed
  pub handled : (c : ℕ) → c < sh.cores → live (Commits t) (w.net (Core c) (Dir d)) ≡ 0

-- A Skip in flight is of a skipped TID, an Abort of an aborted and a Commit of a committed one. A TID that is kept as skipped was
-- given up, and is ahead of the served one; one that is passed was given up or is settled. A TID for which acknowledgements are
-- owed is settled; and a settled one is passed, or served while some are owed.
pub record WaysFit (sh : Shape) (ys : Ways) (w : World) (d t : ℕ) : Type 0 where
  pub skips : (c : ℕ) → c < sh.cores → 1 ≤ live (Skips t) (w.net (Core c) (Dir d)) → ys d t ≡ Skipped
  pub aborts : (c : ℕ) → c < sh.cores → 1 ≤ live (Aborts t) (w.net (Core c) (Dir d)) → ys d t ≡ Aborted
  pub commits : (c : ℕ) → c < sh.cores → 1 ≤ live (Commits t) (w.net (Core c) (Dir d)) → ys d t ≡ Committed
  pub kept : is_skipped (w.dirs d).serving t ≡ true → (is_given_up (ys d t) ≡ true) × ((w.dirs d).serving.serving < t)
  pub passed : t < (w.dirs d).serving.serving → (is_given_up (ys d t) ≡ true) ⊎ Settled sh ys w d t
  pub owed : (w.dirs d).serving.serving ≡ t → 1 ≤ (w.dirs d).owed → Settled sh ys w d t
  pub settled : Settled sh ys w d t → (t < (w.dirs d).serving.serving) ⊎ (((w.dirs d).serving.serving ≡ t) × (1 ≤ (w.dirs d).owed))

abbrev pub AllWaysFit : Shape → Ways → History → Type 0
AllWaysFit sh ys h = (d t : ℕ) → d < sh.dirs → 1 ≤ t → WaysFit sh ys h.world d t

-- the Skips and Aborts of a TID that are in flight from a core
unfoldable pub given_up_by : (tid : ℕ) → Pair → ℕ
given_up_by t v = live (Skips t) v.out + live (Aborts t) v.out

-- Of a TID that was given up at a directory exactly one holds: a Skip or an Abort of it is in flight there, and just one; it is
-- kept as skipped; or it is passed.
abbrev pub GivenUpOnce : Shape → Ways → History → Type 0
GivenUpOnce sh ys h = (d t : ℕ) → d < sh.dirs → 1 ≤ t → is_given_up (ys d t) ≡ true
    → sum_of (given_up_by t) sh.cores h.world d + num (is_skipped (h.world.dirs d).serving t) + num
    (nat_lt t (h.world.dirs d).serving.serving) ≡ 1

-- A TID on its way to its core is untold at each directory. A core's TID is, too, where the core is alone or overflowed; where it
-- waits for replies or may commit it is untold where the core writes, and skipped at every other directory.
pub record LiveIsOpen (sh : Shape) (ys : Ways) (h : History) : Type 0 where
  pub coming : (c d t : ℕ) → c < sh.cores → d < sh.dirs → 1 ≤ live (Grants t) (h.world.net Vendor (Core c)) → ys d t ≡ Untold
  pub held : KeptLive sh ys h.world

-- A committed TID is committed where its commit stored a word, and skipped at every other directory.
abbrev pub CommittedWhereStored : Shape → Ways → History → Type 0
CommittedWhereStored sh ys h = KeptCommitted sh ys h.commits

-- Where a TID is committed the directory has reached it; so each smaller TID is resolved there, given up or settled.
pub record BelowCommitted (sh : Shape) (ys : Ways) (w : World) (d u : ℕ) : Type 0 where
  pub reached : u ≤ (w.dirs d).serving.serving
  pub below : (t : ℕ) → 1 ≤ t → t < u → (is_given_up (ys d t) ≡ true) ⊎ Settled sh ys w d t

abbrev pub SmallerAreResolved : Shape → Ways → History → Type 0
SmallerAreResolved sh ys h = (d u : ℕ) → d < sh.dirs → ys d u ≡ Committed → BelowCommitted sh ys h.world d u

-- A directory where a commit loaded or stored has reached its TID.
abbrev pub WorkIsReached : Shape → Ways → History → Type 0
WorkIsReached sh ys h = KeptWorked sh h.world h.commits

-- So a TID that no commit has is given up wherever a commit of a larger TID loaded or stored.
abbrev pub SmallerAreGivenUp : Shape → Ways → History → Type 0
SmallerAreGivenUp sh ys h = (n : Noted) (d t : ℕ) → Contains h.commits n → d < sh.dirs → worked_at sh n d ≡ true → 1 ≤ t → t < n.tid.0
    → times t h.commits ≡ 0 → is_given_up (ys d t) ≡ true
