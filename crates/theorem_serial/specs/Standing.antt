-- Where a commit stands at a directory, settled or applied; the bound of a core's attempt; and which Marks have yet to go out.
use Rattle.std.specs.Prelude.{ℕ, ◌+◌, ◌≡◌, ◌<◌, ◌≤◌, Bool, true, false, not, ◌==◌, ◌&&◌, ◌||◌, List, Contains, Option, Some, None, nat_lt}
use Rattle.std.specs.Prelude.{nat_le}
use Rattle.tcc_base.specs.declared.access.Commit.{Commit as Noted}
use Rattle.rules_maps.specs.Words.{num}
use Rattle.rules_maps.specs.Nodes.{Core, Dir}
use Rattle.rules_maps.specs.Shape.{Shape}
use Rattle.rules_tcc.specs.State.{DirState, World}
use Rattle.theorem_serial.specs.Count.{Grants, Commits, live}
use Rattle.theorem_serial.specs.Marks.{marks_of, has_marked}
use Rattle.theorem_serial.specs.Owners.{holder}
use Rattle.theorem_serial.specs.Pairs.{Pair}
use Rattle.theorem_serial.specs.Stored.{stores_at}
use Rattle.theorem_serial.specs.Tids.{has_tid}

-- settled: no Commit of the commit's TID is in flight to the directory any more
unfoldable pub is_settled : World → (dir : ℕ) → Noted → Bool
is_settled w d x = live (Commits x.tid.0) (w.net (Core x.core.0) (Dir d)) == 0

-- applied: the directory has passed the TID, or serves it and is owed acknowledgements
unfoldable pub is_applied : DirState → (tid : ℕ) → Bool
is_applied s t = nat_lt t s.serving.serving || (t == s.serving.serving && nat_lt 0 s.owed)

-- A commit is on its way to each directory where it stored, or applied there, not both.
abbrev pub CommitsStand : Shape → World → List Noted → Type 0
CommitsStand sh w cs = (n : Noted) (d : ℕ) → Contains cs n → d < sh.dirs → stores_at sh d n.stores ≡ true
    → live (Commits n.tid.0) (w.net (Core n.core.0) (Dir d)) + num (is_applied (w.dirs d) n.tid.0) ≡ 1

-- the bound of a core's attempt: the TID that the core has, or that is on its way to it
abbrev pub IsBound : Option ℕ → Pair → Type 0
IsBound (Some t) v = 1 ≤ holder t v
IsBound None v = (t : ℕ) → holder t v ≡ 0

-- the value is there, and is this one
abbrev pub is_this : Option ℕ → ℕ → Bool
is_this None x = false
is_this (Some y) x = y == x

-- A TID that hasn't come to its core has no Mark, in flight or handled, nor has the core's TID in a phase that sends none or where
-- the directory owes a reply.
pub record MarksWait (sh : Shape) (t l d : ℕ) (v : Pair) : Type 0 where
  pub fresh : 1 ≤ num (nat_le v.next t) + live (Grants t) v.grants → marks_of t l v ≡ 0
  pub unsent : has_tid v.core.phase t ≡ true → (has_marked v.core.phase && not (v.core.owing d)) ≡ false → marks_of t l v ≡ 0
