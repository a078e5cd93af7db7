-- What a TID that commits has marked is what its commit stored.
use Rattle.std.specs.Prelude.{ℕ, Bool, true, ◌≡◌, ◌<◌, ◌≤◌, ◌==◌, ◌&&◌, List, Contains, nat_lt, if◌then◌else◌}
use Rattle.tcc_base.specs.declared.access.Commit.{Commit as Noted}
use Rattle.tcc_base.specs.declared.access.Stored.{Stored}
use Rattle.rules_maps.specs.Words.{num, any_below, word_at}
use Rattle.rules_maps.specs.Masks.{mask_of}
use Rattle.rules_maps.specs.Shape.{Shape, home, lines}
use Rattle.rules_tcc.specs.State.{DirState, World}
use Rattle.theorem_serial.specs.Count.{Commits, live}
use Rattle.theorem_serial.specs.Marks.{marks_of}
use Rattle.theorem_serial.specs.Masked.{wrong_marks}
use Rattle.theorem_serial.specs.Pairs.{Pair, pair}
use Rattle.theorem_serial.specs.Uses.{stores_word}

-- the words of a line that the stores name, as a mask; a store of a part of a word names its word
unfoldable pub stores_in : (base : ℕ) → List Stored → (line : ℕ) → ℕ
stores_in base ss l = mask_of (λ k. stores_word base ss (word_at l k))

-- the same of a line that is at home at the directory, and no word of any other
unfoldable pub stored_mask : Shape → (dir : ℕ) → List Stored → (line : ℕ) → ℕ
stored_mask sh d ss l = if nat_lt l (lines sh) && d == home sh l then stores_in sh.base ss l else 0

-- the stores name a word of a line that is at home at the directory
unfoldable pub stores_at : Shape → (dir : ℕ) → List Stored → Bool
stores_at sh d ss = any_below (λ l. nat_lt 0 (stored_mask sh d ss l)) (lines sh)

-- the Marks of a line by a TID, in flight and handled together, are one with this mask, and none where the mask has no word
pub record MarkedWith (t l mask : ℕ) (v : Pair) : Type 0 where
  pub one : marks_of t l v ≡ num (nat_lt 0 mask)
  pub right : wrong_marks t l mask v ≡ 0

-- a commit by this core, among those so far, that stored at the directory: the Marks of its TID there are those of the lines in
-- which it stored
pub record MarkedCommit (sh : Shape) (cs : List Noted) (c d t : ℕ) (v : Pair) : Type 0 where
  pub commit : Noted
  pub noted : Contains cs commit
  pub tid : commit.tid.0 ≡ t
  pub core : commit.core.0 ≡ c
  pub stored : stores_at sh d commit.stores ≡ true
  pub marks : (l : ℕ) → MarkedWith t l (stored_mask sh d commit.stores l) v

-- a commit of the served TID, among those so far, that stored at the directory: the directory's marks are the words that it stored
-- in lines at home there
pub record SettledCommit (sh : Shape) (cs : List Noted) (d : ℕ) (s : DirState) : Type 0 where
  pub commit : Noted
  pub noted : Contains cs commit
  pub tid : commit.tid.0 ≡ s.serving.serving
  pub stored : stores_at sh d commit.stores ≡ true
  pub marks : (l : ℕ) → s.lines.mark l ≡ stored_mask sh d commit.stores l

-- A Commit in flight is of such a commit, and while acknowledgements are owed, so is the served TID.
pub record StoredOf (sh : Shape) (cs : List Noted) (c d t : ℕ) (v : Pair) : Type 0 where
  pub sent : c < sh.cores → d < sh.dirs → 1 ≤ live (Commits t) v.out → MarkedCommit sh cs c d t v
  pub settled : d < sh.dirs → 1 ≤ v.dir.owed → SettledCommit sh cs d v.dir

abbrev pub KeptStored : Shape → List Noted → World → Type 0
KeptStored sh cs w = (c d t : ℕ) → StoredOf sh cs c d t (pair w c d)
