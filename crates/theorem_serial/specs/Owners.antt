-- Who was granted which TID along a run, and that each commits at most once.
use Rattle.std.specs.Prelude.{ℕ, ◌+◌, ◌≡◌, ◌<◌, ◌≤◌, ◌==◌, List, [], ◌∷◌, ◌++◌, length, Contains, Option, Some, None, nat_le}
use Rattle.tcc_base.specs.declared.access.Commit.{Commit as Noted}
use Rattle.rules_program.specs.Program.{Program}
use Rattle.rules_maps.specs.Words.{num}
use Rattle.rules_maps.specs.Nodes.{Core, Vendor, Event, Deliver, Msg, TidReq}
use Rattle.rules_maps.specs.Shape.{Shape}
use Rattle.rules_tcc.specs.State.{World}
use Rattle.rules_tcc.specs.Links.{in_flight}
use Rattle.rules_tcc.specs.Step.{History, next_history}
use Rattle.theorem_serial.specs.Count.{Grants, Commits, Invs, live}
use Rattle.theorem_serial.specs.Pairs.{Pair, pair, sum_of}
use Rattle.theorem_serial.specs.Tids.{has_tid}

pub record Grant : Type 0 where
  pub tid : ℕ
  pub core : ℕ

-- what the vendor grants for this message of core c
abbrev pub grant_for : (next core : ℕ) → Option Msg → List Grant
grant_for n c (Some TidReq) = record { tid = n; core = c } ∷ []
grant_for n c _ = []

-- what is granted by an event
abbrev pub granted_by : World → Event → List Grant
granted_by w (Deliver (Core c) Vendor k) = grant_for w.next c (in_flight w.net (Core c) Vendor k)
granted_by w _ = []

abbrev pub then_grants : List Grant → (History → List Grant) → Option History → List Grant
then_grants gs more None = []
then_grants gs more (Some h) = gs ++ more h

-- what is granted along a run, in order
unfoldable pub grants_from : Shape → Program → List Event → History → List Grant
grants_from sh p [] h = []
grants_from sh p (e ∷ es) h = then_grants (granted_by h.world e) (grants_from sh p es) (next_history sh p h e)

-- the TIDs are n, n + 1, and so on
unfoldable pub IsNumbered : (n : ℕ) → List Grant → Type 0
IsNumbered n [] = Unit {0}
IsNumbered n (g ∷ gs) = (g.tid ≡ n) × IsNumbered (n + 1) gs

-- the TIDs of the commits rise strictly from above `last`
unfoldable pub IsRising : (last : ℕ) → List Noted → Type 0
IsRising last [] = Unit {0}
IsRising last (c ∷ cs) = (last < c.tid.0) × IsRising c.tid.0 cs

-- each commit's TID was granted to its core
unfoldable pub AreGranted : List Grant → List Noted → Type 0
AreGranted gs [] = Unit {0}
AreGranted gs (c ∷ cs) = Contains gs (record { tid = c.tid.0; core = c.core.0 }) × AreGranted gs cs

-- how many of the commits have the TID
unfoldable pub times : ℕ → List Noted → ℕ
times t [] = 0
times t (c ∷ cs) = num (c.tid.0 == t) + times t cs

-- the core has the TID, or it is on its way to the core
unfoldable pub holder : (tid : ℕ) → Pair → ℕ
holder t v = live (Grants t) v.grants + num (has_tid v.core.phase t)

-- Each TID is one of: not granted yet, with one core, committed once, given up.
pub record KeptOwners (sh : Shape) (gs : List Grant) (w : World) (commits : List Noted) : Type 0 where
  pub once : (t : ℕ) → sum_of (holder t) sh.cores w 0 + times t commits + num (nat_le w.next t) ≤ 1
  pub held : (c d t : ℕ) → 1 ≤ holder t (pair w c d) → Contains gs (record { tid = t; core = c })
  pub numbered : IsNumbered 1 gs
  pub next : w.next ≡ length gs + 1
  pub granted : AreGranted gs commits
  pub rising : IsRising 0 commits

-- A core's TID is the last that was granted to it.
abbrev pub LastGranted : List Grant → World → Type 0
LastGranted gs w = (c d t u : ℕ) → 1 ≤ holder t (pair w c d) → Contains gs (record { tid = u; core = c }) → u ≤ t

-- A Commit in flight is from the core that its TID was granted to, and no invalidation is in flight to this core.
pub record SparedOf (sh : Shape) (gs : List Grant) (c d : ℕ) (v : Pair) : Type 0 where
  pub owner : (t : ℕ) → 1 ≤ live (Commits t) v.out → Contains gs (record { tid = t; core = c })
  pub own : d < sh.dirs → Contains gs (record { tid = v.dir.serving.serving; core = c }) → live Invs v.back ≡ 0

abbrev pub SparesCommitter : Shape → List Grant → World → Type 0
SparesCommitter sh gs w = (c d : ℕ) → SparedOf sh gs c d (pair w c d)
