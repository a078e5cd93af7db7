-- The Marks of a TID at a directory are those of the lines that its core stores there.
use Rattle.std.specs.Prelude.{ℕ, ◌+◌, ◌≡◌, ◌<◌, ◌≤◌, Bool, true, false, not, ◌==◌, ◌&&◌, List, Contains, nat_le, nat_lt}
use Rattle.rules_maps.specs.Words.{num}
use Rattle.rules_maps.specs.Cache.{Cache, is_modified}
use Rattle.rules_maps.specs.Lines.{has_mark}
use Rattle.rules_maps.specs.Shape.{Shape, home, lines}
use Rattle.rules_tcc.specs.State.{CoreState, Phase, Probing, Ready, World}
use Rattle.theorem_serial.specs.Count.{Grants, Resolves, Marks, MarkOf, EmptyMarks, Skips, live}
use Rattle.theorem_serial.specs.Owners.{Grant}
use Rattle.theorem_serial.specs.Pairs.{Pair, pair}
use Rattle.theorem_serial.specs.Tids.{has_tid}

-- the Marks of a line by a TID: in flight from this core, or handled by the directory that serves it
unfoldable pub marks_of : (tid line : ℕ) → Pair → ℕ
marks_of t l v = live (MarkOf t l) v.out + num (v.dir.serving.serving == t && has_mark v.dir.lines l)

-- a core in this phase has sent its Marks to each directory that owes it no reply
unfoldable pub has_marked : Phase → Bool
has_marked (Probing t) = true
has_marked (Ready t) = true
has_marked _ = false

-- a line with modified words, at home at the directory
unfoldable pub stores_line : Shape → Cache → (dir line : ℕ) → Bool
stores_line sh c d l = nat_lt l (lines sh) && (d == home sh l && is_modified c l)

-- the core has sent a Mark of the line
unfoldable pub marked_by : Shape → CoreState → (dir line : ℕ) → ℕ
marked_by sh s d l = num (has_marked s.phase && (not (s.owing d) && stores_line sh s.cache d l))

-- A Mark, and a word on what becomes of a TID, come from the core that the TID was granted to. No Mark is empty. Of a TID that
-- hasn't come yet, or that is skipped, there is no Mark; of a core's TID there is one of each line that it stores, from when
-- the directory has replied.
pub record MarksOf (sh : Shape) (gs : List Grant) (c d t l : ℕ) (v : Pair) : Type 0 where
  pub owner : 1 ≤ live (Marks t) v.out + live (Resolves t) v.out → Contains gs (record { tid = t; core = c })
  pub words : live EmptyMarks v.out ≡ 0
  pub fresh : 1 ≤ num (nat_le v.next t) + live (Grants t) v.grants → marks_of t l v ≡ 0
  pub skipped : d < sh.dirs → 1 ≤ live (Skips t) v.out → marks_of t l v ≡ 0
  pub held : c < sh.cores → d < sh.dirs → has_tid v.core.phase t ≡ true → marks_of t l v ≡ marked_by sh v.core d l

abbrev pub KeptMarks : Shape → List Grant → World → Type 0
KeptMarks sh gs w = (c d t l : ℕ) → MarksOf sh gs c d t l (pair w c d)

-- The Marks of a TID at a directory are of different lines: of each line at most one is in flight from a core or handled.
abbrev pub OneMark : Shape → World → Type 0
OneMark sh w = (c d t l : ℕ) → c < sh.cores → d < sh.dirs → marks_of t l (pair w c d) ≤ 1
