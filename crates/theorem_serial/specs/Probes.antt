-- Which directories a core with a TID asks, and what those serve that have replied.
use Rattle.std.specs.Prelude.{ℕ, ◌≡◌, ◌<◌, ◌≤◌, Bool, true, false, ◌||◌, Some}
use Rattle.rules_maps.specs.Shape.{Shape}
use Rattle.rules_maps.specs.Cache.{writes_at, reads_at}
use Rattle.rules_tcc.specs.State.{CoreState, Phase, Probing, Ready, Overflowing, Solo, World}
use Rattle.theorem_serial.specs.Count.{RepliesAbove, live}
use Rattle.theorem_serial.specs.Pairs.{Pair, pair}

-- the TID of a core in this phase
abbrev pub tid_of : Phase → ℕ
tid_of (Probing t) = t
tid_of (Ready t) = t
tid_of (Overflowing (Some t)) = t
tid_of (Solo t) = t
tid_of _ = 0

-- a core in this phase asks a directory; touched: it has modified or read words there
abbrev pub asks_dir : Phase → (touched : Bool) → Bool
asks_dir (Probing t) touched = touched
asks_dir (Ready t) touched = touched
asks_dir (Overflowing (Some t)) touched = true
asks_dir (Solo t) touched = true
asks_dir _ touched = false

-- a core in this phase waits for no reply
abbrev pub may_commit : Phase → Bool
may_commit (Ready t) = true
may_commit (Solo t) = true
may_commit _ = false

-- A directory that a core asked and that owes it no reply serves the core's TID or a later one; none owes one to a core that
-- may commit.
pub record Reached (sh : Shape) (d serving : ℕ) (s : CoreState) : Type 0 where
  pub reached : d < sh.dirs → asks_dir s.phase (writes_at sh s.cache d || reads_at sh s.cache d) ≡ true → s.owing d ≡ false
      → tid_of s.phase ≤ serving
  pub replied : d < sh.dirs → may_commit s.phase ≡ true → s.owing d ≡ false

-- and a reply comes from a directory that has reached its TID
pub record ReachedOf (sh : Shape) (d : ℕ) (v : Pair) : Type 0 where
  pub core : Reached sh d v.dir.serving.serving v.core
  pub replies : live (RepliesAbove v.dir.serving.serving) v.back ≡ 0

abbrev pub KeptProbes : Shape → World → Type 0
KeptProbes sh w = (c d : ℕ) → ReachedOf sh d (pair w c d)
