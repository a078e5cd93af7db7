-- Where each TID is: not granted yet, on its way to its core, open, on its way to a directory, or handled there.
use Rattle.std.specs.Prelude.{ℕ, ◌+◌, ◌≡◌, ◌<◌, ◌≤◌, Bool, true, false, ◌==◌, ◌&&◌, nat_lt, nat_le, Some, None}
use Rattle.rules_maps.specs.Words.{num}
use Rattle.rules_maps.specs.Serving.{Serving, is_skipped}
use Rattle.rules_maps.specs.Shape.{Shape}
use Rattle.rules_maps.specs.Cache.{writes_at}
use Rattle.rules_tcc.specs.State.{Phase, AwaitTid, DoomedTid, Probing, Ready, Overflowing, Solo, World}
use Rattle.theorem_serial.specs.Count.{Asks, Grants, AnyGrant, Resolves, Any, live}
use Rattle.theorem_serial.specs.Pairs.{Pair, pair, sum_of}

-- a core in this phase waits for a TID
unfoldable pub waits_for_tid : Phase → Bool
waits_for_tid AwaitTid = true
waits_for_tid DoomedTid = true
waits_for_tid (Overflowing None) = true
waits_for_tid _ = false

-- a core in this phase has the TID
unfoldable pub has_tid : Phase → ℕ → Bool
has_tid (Probing u) t = u == t
has_tid (Ready u) t = u == t
has_tid (Overflowing (Some u)) t = u == t
has_tid (Solo u) t = u == t
has_tid _ t = false

-- a core in this phase has the TID, and hasn't said yet what becomes of it at a directory; written: it has modified words there
unfoldable pub opens : Phase → (written : Bool) → ℕ → Bool
opens (Probing u) written t = (u == t) && written
opens (Ready u) written t = (u == t) && written
opens (Overflowing (Some u)) written t = u == t
opens (Solo u) written t = u == t
opens _ written t = false

-- a core's part of a TID at a directory: it is on its way to the core, or open, or given up or committing and on its way to
-- the directory
unfoldable pub part : Shape → (dir tid : ℕ) → Pair → ℕ
part sh d t v = live (Grants t) v.grants + num (opens v.core.phase (writes_at sh v.core.cache d) t) + live (Resolves t) v.out

-- the directory has passed the TID, keeps it as skipped, or serves it and is owed acknowledgements
unfoldable pub handled : Serving → (owed : ℕ) → (tid : ℕ) → ℕ
handled s owed t = num (nat_lt t s.serving) + num (is_skipped s t) + num ((t == s.serving) && nat_lt 0 owed)

-- each TID is in one way at each directory
abbrev pub ResolvedAt : Shape → World → (dir tid : ℕ) → Type 0
ResolvedAt sh w d t = sum_of (part sh d t) sh.cores w d + num (nat_le w.next t) + handled (w.dirs d).serving (w.dirs d).owed t ≡ 1

-- one request or grant is in flight exactly for a core that waits for a TID
abbrev pub RequestOf : Pair → Type 0
RequestOf v = live Asks v.asks + live AnyGrant v.grants ≡ num (waits_for_tid v.core.phase)

-- nothing is in flight from or to a core that the machine doesn't have, and no such core owns a line
pub record InsideOf (sh : Shape) (c : ℕ) (v : Pair) : Type 0 where
  pub out : sh.cores ≤ c → live Any v.out ≡ 0
  pub back : sh.cores ≤ c → live Any v.back ≡ 0
  pub asks : sh.cores ≤ c → live Any v.asks ≡ 0
  pub grants : sh.cores ≤ c → live Any v.grants ≡ 0
  pub owners : (l o : ℕ) → v.dir.lines.owner l ≡ Some o → o < sh.cores

-- What every state that a run reaches satisfies.
pub record KeptTids (sh : Shape) (w : World) : Type 0 where
  pub inside : (c d : ℕ) → InsideOf sh c (pair w c d)
  pub requests : (c d : ℕ) → RequestOf (pair w c d)
  pub resolved : (d t : ℕ) → d < sh.dirs → ResolvedAt sh w d t
