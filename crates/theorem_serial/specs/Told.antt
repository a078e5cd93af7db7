-- What the ways say of a core's TID, and of a committed one.
use Rattle.std.specs.Prelude.{ℕ, ◌≡◌, ◌<◌, ◌≤◌, Bool, true, List, Contains, if◌then◌else◌}
use Rattle.tcc_base.specs.declared.access.Commit.{Commit as Noted}
use Rattle.rules_maps.specs.Cache.{writes_at}
use Rattle.rules_maps.specs.Shape.{Shape}
use Rattle.rules_tcc.specs.State.{Phase, Probing, Ready, World}
use Rattle.theorem_serial.specs.Owners.{times}
use Rattle.theorem_serial.specs.Tids.{has_tid}
use Rattle.theorem_serial.specs.Stored.{stores_at}
use Rattle.theorem_serial.specs.Ways.{Way, Untold, Skipped, Committed, Ways}

-- the way of a core's TID at a directory; written: the core has modified words there
unfoldable pub live_way : Phase → (written : Bool) → Way
live_way (Probing t) written = if written then Untold else Skipped
live_way (Ready t) written = if written then Untold else Skipped
live_way _ written = Untold

-- A core that waits for replies or may commit has skipped its TID where it writes nothing; else nothing was said of it yet.
abbrev pub KeptLive : Shape → Ways → World → Type 0
KeptLive sh ys w = (c d t : ℕ) → c < sh.cores → d < sh.dirs → has_tid (w.cores c).phase t ≡ true
    → ys d t ≡ live_way (w.cores c).phase (writes_at sh (w.cores c).cache d)

-- the way of a commit's TID at a directory
abbrev pub commit_way : Shape → Noted → (dir : ℕ) → Way
commit_way sh n d = if stores_at sh d n.stores then Committed else Skipped

-- A committed TID is committed where its commit stored, and given up by a Skip at every other directory; a TID that no commit has
-- is committed nowhere.
pub record KeptCommitted (sh : Shape) (ys : Ways) (commits : List Noted) : Type 0 where
  pub stored : (n : Noted) (d : ℕ) → Contains commits n → d < sh.dirs → ys d n.tid.0 ≡ commit_way sh n d
  pub only : (d t : ℕ) → d < sh.dirs → ys d t ≡ Committed → 1 ≤ times t commits
