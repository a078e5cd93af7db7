-- Lines and their copies, without values: what a directory knows of a line is what its commits and the cores' caches make of it.
use Rattle.std.specs.Prelude.{ℕ, ◌+◌, ◌≡◌, ◌<◌, ◌≤◌, ◌⊎◌, Bool, true, false, not, cond, ◌==◌, ◌&&◌, ◌||◌, List, Contains, Option, Some}
use Rattle.std.specs.Prelude.{None, is_some, nat_lt}
use Rattle.tcc_base.specs.declared.access.Commit.{Commit as Noted}
use Rattle.rules_maps.specs.Words.{num, any_word}
use Rattle.rules_maps.specs.Cache.{Cache, is_dirty, dirty_mask, dirty_tag}
use Rattle.rules_maps.specs.Lines.{Lines}
use Rattle.rules_maps.specs.Shape.{Shape, home, lines}
use Rattle.rules_tcc.specs.State.{Awaited, World}
use Rattle.rules_tcc.specs.CoreEvict.{is_awaited}
use Rattle.theorem_serial.specs.Count.{LoadOf, LoadNot, FillOf, Commits, CopyOf, CopyMask, DataOf, GoneOf, LinesAway, NoWord, live}
use Rattle.theorem_serial.specs.Owners.{Grant}
use Rattle.theorem_serial.specs.Pairs.{Pair, pair}
use Rattle.theorem_serial.specs.Standing.{is_settled, is_this}
use Rattle.theorem_serial.specs.Stored.{stores_at}
use Rattle.theorem_serial.specs.Wrote.{names_line, wrote_line, wrote_mask, last_of}

-- records and messages are at home

-- nothing is known of the line
pub record IsUnknown (ls : Lines) (l : ℕ) : Type 0 where
  pub sharers : (c : ℕ) → ls.sharers l c ≡ false
  pub owner : ls.owner l ≡ None
  pub tag : ls.tag l ≡ 0
  pub asked : ls.asked l ≡ false
  pub mark : ls.mark l ≡ 0

-- A directory knows only of lines that are at home there, and of cores that the machine has. Messages about a line go to its home
-- or come from it, and name some word where they name words.
pub record HomeOf (sh : Shape) (d l : ℕ) (v : Pair) : Type 0 where
  pub known : (home sh l ≡ d → ⊥) → IsUnknown v.dir.lines l
  pub sharers : (j : ℕ) → v.dir.lines.sharers l j ≡ true → j < sh.cores
  pub owners : (j : ℕ) → v.dir.lines.owner l ≡ Some j → j < sh.cores
  pub out : live (LinesAway sh.dirs d) v.out ≡ 0
  pub back : live (LinesAway sh.dirs d) v.back ≡ 0
  pub some_out : live NoWord v.out ≡ 0
  pub some_back : live NoWord v.back ≡ 0

abbrev pub KeptHomes : Shape → World → Type 0
KeptHomes sh w = (c d l : ℕ) → HomeOf sh d l (pair w c d)

-- tags, owners and last commits

-- the commit is settled at the directory and stored in the line
unfoldable pub settled_in_line : Shape → World → (dir line : ℕ) → Noted → Bool
settled_in_line sh w d l x = is_settled w d x && names_line sh.base x.stores l

-- The tag of a line in memory is the greatest TID that is settled at its home and stored in it, or 0.
abbrev pub KeptTags : Shape → World → List Noted → Type 0
KeptTags sh w cs = (d l : ℕ) → d < sh.dirs → l < lines sh → home sh l ≡ d → (w.dirs d).lines.tag l ≡ last_of (settled_in_line sh w d l) cs

-- The owner of a line is the core that the line's tag was granted to.
abbrev pub KeptLineOwners : List Grant → World → Type 0
KeptLineOwners gs w = (d l c : ℕ) → (w.dirs d).lines.owner l ≡ Some c → Contains gs (record { tid = (w.dirs d).lines.tag l; core = c })

-- the commit is the core's and stored at the directory
unfoldable pub stored_there : Shape → (core dir : ℕ) → Noted → Bool
stored_there sh c d x = (x.core.0 == c) && stores_at sh d x.stores

-- What a core notes of a directory is the greatest TID of its commits that stored there, or 0; a load request to there carries it.
pub record AfterOf (sh : Shape) (cs : List Noted) (c d : ℕ) (v : Pair) : Type 0 where
  pub last : v.core.last_commit d ≡ last_of (stored_there sh c d) cs
  pub carried : live (LoadNot (v.core.last_commit d)) v.out ≡ 0

abbrev pub KeptAfter : Shape → World → List Noted → Type 0
KeptAfter sh w cs = (c d : ℕ) → c < sh.cores → d < sh.dirs → AfterOf sh cs c d (pair w c d)

-- loads

-- One load request or Fill is in flight exactly for the line that a core awaits, between the core and the line's home.
abbrev pub LoadingOf : Shape → (dir line : ℕ) → Pair → Type 0
LoadingOf sh d l v = live (LoadOf l) v.out + live (FillOf l) v.back ≡ num (is_awaited v.core.awaited l && home sh l == d)

abbrev pub KeptLoading : Shape → World → Type 0
KeptLoading sh w = (c d l : ℕ) → LoadingOf sh d l (pair w c d)

-- copies

-- the core's copies of a line with this tag: its frame where that is dirty, and those on their way home
unfoldable pub copies_with : (line tag : ℕ) → Pair → ℕ
copies_with l t v = num (is_dirty v.core.cache l && dirty_tag v.core.cache l == t) + live (CopyOf l t) v.out

-- Of a line in memory, with a tag above the line's, there is one copy where a commit stored in the line whose Commit is in flight, and
-- no other; it has just the words that the commit stored.
pub record AboveOf (base : ℕ) (cs : List Noted) (c l t : ℕ) (v : Pair) : Type 0 where
  pub one : copies_with l t v ≡ cond (wrote_line base cs c t l) (live (Commits t) v.out) 0
  pub framed : is_dirty v.core.cache l ≡ true → dirty_tag v.core.cache l ≡ t → dirty_mask v.core.cache l ≡ wrote_mask base cs c t l
  pub sent : live (CopyMask l t (wrote_mask base cs c t l)) v.out ≡ 0

abbrev pub KeptAbove : Shape → World → List Noted → Type 0
KeptAbove sh w cs = (c d l t : ℕ) → c < sh.cores → d < sh.dirs → l < lines sh → home sh l ≡ d → (w.dirs d).lines.tag l < t
    → AboveOf sh.base cs c l t (pair w c d)

-- Of a line in memory there is one copy with the line's tag, the owner's, where there is an owner, and else none.
abbrev pub OwnedOf : (core line : ℕ) → Pair → Type 0
OwnedOf c l v = copies_with l (v.dir.lines.tag l) v ≡ num (is_this (v.dir.lines.owner l) c)

abbrev pub KeptOwned : Shape → World → Type 0
KeptOwned sh w = (c d l : ℕ) → c < sh.cores → d < sh.dirs → l < lines sh → home sh l ≡ d → OwnedOf c l (pair w c d)

-- Of an asked line in memory the request is in flight to the owner, or its words are on their way from the owner.
abbrev pub GetsOf : (core line : ℕ) → Pair → Type 0
GetsOf c l v = v.dir.lines.asked l ≡ true → v.dir.lines.owner l ≡ Some c
    → 1 ≤ live (DataOf l) v.back + live (CopyOf l (v.dir.lines.tag l)) v.out

abbrev pub KeptGets : Shape → World → Type 0
KeptGets sh w = (c d l : ℕ) → c < sh.cores → d < sh.dirs → l < lines sh → home sh l ≡ d → GetsOf c l (pair w c d)

-- sharers

-- the frame has a valid word of the line that isn't modified, or that is marked read
unfoldable pub keeps_unmodified : Cache → (line : ℕ) → Bool
keeps_unmodified c l = any_word (λ w. is_some (c.value w) && (not (c.modified w) || c.read w)) l

-- the awaited line isn't stale
abbrev pub is_fresh : Option Awaited → Bool
is_fresh None = false
is_fresh (Some a) = not a.stale

-- the core holds the line: it keeps such a word, or a Fill is in flight to it that it will take
unfoldable pub holds_line : (line : ℕ) → Pair → Bool
holds_line l v = keeps_unmodified v.core.cache l || (is_fresh v.core.awaited && nat_lt 0 (live (FillOf l) v.back))

-- a Commit of the core is in flight whose TID stored in the line
pub record CommitsLine (base : ℕ) (cs : List Noted) (c l : ℕ) (v : Pair) : Type 0 where
  pub tid : ℕ
  pub sent : 1 ≤ live (Commits tid) v.out
  pub line : wrote_line base cs c tid l ≡ true

-- A core that holds a line in memory is one of its sharers, or its Commit of the line is in flight; and it hasn't said that it keeps
-- no word.
pub record SharerOf (base : ℕ) (cs : List Noted) (c l : ℕ) (v : Pair) : Type 0 where
  pub shares : holds_line l v ≡ true → (v.dir.lines.sharers l c ≡ true) ⊎ CommitsLine base cs c l v
  pub stays : holds_line l v ≡ true → live (GoneOf l) v.out ≡ 0

abbrev pub KeptSharers : Shape → World → List Noted → Type 0
KeptSharers sh w cs = (c d l : ℕ) → c < sh.cores → d < sh.dirs → l < lines sh → home sh l ≡ d → SharerOf sh.base cs c l (pair w c d)
