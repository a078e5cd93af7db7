-- Values: what each word is for a core at its bound, and that homes, copies, frames, fills and views have just these values, or an
-- invalidation is on its way.
use Rattle.std.specs.Prelude.{ℕ, ◌+◌, ◌≡◌, ◌<◌, ◌≤◌, ◌⊎◌, Bool, true, false, ◌==◌, ◌&&◌, ◌||◌, List, [], ◌∷◌, Option, Some, None, is_some}
use Rattle.std.specs.Prelude.{nat_lt, if◌then◌else◌}
use Rattle.tcc_base.specs.declared.access.Commit.{Commit as Noted}
use Rattle.tcc_base.specs.declared.access.Stored.{Stored}
use Rattle.rules_program.specs.Ram.{word_of, patched}
use Rattle.rules_maps.specs.Words.{num, line_of}
use Rattle.rules_maps.specs.Shape.{Shape, home}
use Rattle.rules_tcc.specs.State.{Awaited, DirState, Halted, World}
use Rattle.theorem_attempt.specs.Follows.{Uses}
use Rattle.theorem_serial.specs.Count.{Kind, FillNot, CopyWord, CopyNot, InvWord, InvBelow, live}
use Rattle.theorem_serial.specs.Pairs.{Pair, pair}
use Rattle.theorem_serial.specs.Standing.{is_applied, is_this, IsBound}

-- a word after the stores of a list, from first to last
unfoldable pub after_stores : (base : ℕ) → List Stored → (word value : ℕ) → ℕ
after_stores base [] x y = y
after_stores base (s ∷ ss) x y = after_stores base ss x (if word_of base s.addr == x then patched y s.addr s.size s.value else y)

-- the TID is below the bound, where there is one
abbrev pub is_below : Option ℕ → ℕ → Bool
is_below None t = true
is_below (Some b) t = nat_lt t b

-- A commit counts at a directory for a core at a bound: its TID is below the bound, and it is the core's own or applied there.
unfoldable pub counts : DirState → (core bound : Option ℕ) → Noted → Bool
counts s c b n = is_below b n.tid.0 && (is_this c n.core.0 || is_applied s n.tid.0)

unfoldable pub after_commits : (base : ℕ) → DirState → (core bound : Option ℕ) → (word : ℕ) → List Noted → (value : ℕ) → ℕ
after_commits base s c b x [] y = y
after_commits base s c b x (n ∷ ns) y = after_commits base s c b x ns (if counts s c b n then after_stores base n.stores x y else y)

-- The value of a word for a core at a bound, s being the word's home: as it was loaded, with the stores of the commits that count,
-- by rising TID; so it is the value of the greatest TID that stored the word and counts. Without a core those that are applied count.
unfoldable pub value_at : (base : ℕ) → (ram : ℕ → ℕ) → List Noted → DirState → (core bound : Option ℕ) → (word : ℕ) → ℕ
value_at base ram cs s c b x = after_commits base s c b x cs (ram x)

-- home words and copies

-- the core's copies of a word with this tag: in its frame where it is dirty there, and on their way home
unfoldable pub word_copies : (word tag : ℕ) → Pair → ℕ
word_copies x t v = num (is_this (v.core.cache.dirty x) t) + live (CopyWord x t) v.out

-- each of them has this value
pub record CopiesHave (x t y : ℕ) (v : Pair) : Type 0 where
  pub framed : v.core.cache.dirty x ≡ Some t → v.core.cache.value x ≡ Some y
  pub sent : live (CopyNot x t y) v.out ≡ 0

-- A word has its value in the copy with its line's tag, and at home where no such copy has the word.
pub record HomeWords (sh : Shape) (ram : ℕ → ℕ) (w : World) (cs : List Noted) : Type 0 where
  pub at_home : (d x : ℕ) → d < sh.dirs → home sh (line_of x) ≡ d
      → ((c : ℕ) → c < sh.cores → word_copies x ((w.dirs d).lines.tag (line_of x)) (pair w c d) ≡ 0)
      → (w.dirs d).words x ≡ value_at sh.base ram cs (w.dirs d) None None x
  pub in_copies : (c d x : ℕ) → c < sh.cores → d < sh.dirs → home sh (line_of x) ≡ d
      → CopiesHave x ((w.dirs d).lines.tag (line_of x)) (value_at sh.base ram cs (w.dirs d) None None x) (pair w c d)

-- A copy with a tag above the line's has the words as they are for its core.
abbrev pub CopiesAbove : Shape → (ℕ → ℕ) → World → List Noted → Type 0
CopiesAbove sh ram w cs = (c d x t : ℕ) → c < sh.cores → d < sh.dirs → home sh (line_of x) ≡ d → (w.dirs d).lines.tag (line_of x) < t
    → CopiesHave x t (value_at sh.base ram cs (w.dirs d) (Some c) None x) (pair w c d)

-- frames and fills

-- A valid word that isn't modified is as it is for its core, or an invalidation of it is in flight to the core.
abbrev pub UnmodifiedWords : Shape → (ℕ → ℕ) → World → List Noted → Type 0
UnmodifiedWords sh ram w cs = (c d x y : ℕ) → c < sh.cores → d < sh.dirs → home sh (line_of x) ≡ d → (w.cores c).cache.value x ≡ Some y
    → (w.cores c).cache.modified x ≡ false → (y ≡ value_at sh.base ram cs (w.dirs d) (Some c) None x)
    ⊎ (1 ≤ live (InvWord x) (pair w c d).back)

abbrev pub is_stale : Option Awaited → Bool
is_stale None = false
is_stale (Some a) = a.stale

-- So is each word of a Fill that the core will take.
abbrev pub FilledWords : Shape → (ℕ → ℕ) → World → List Noted → Type 0
FilledWords sh ram w cs = (c d x : ℕ) → c < sh.cores → d < sh.dirs → home sh (line_of x) ≡ d → is_stale (w.cores c).awaited ≡ false
    → (live (FillNot x (value_at sh.base ram cs (w.dirs d) (Some c) None x)) (pair w c d).back ≡ 0)
    ⊎ (1 ≤ live (InvWord x) (pair w c d).back)

-- marks and views

-- the directory has passed the bound; without one it never has
abbrev pub IsPassed : Option ℕ → (serving : ℕ) → Type 0
IsPassed None s = ⊥
IsPassed (Some b) s = b < s

-- A word that is marked read is valid, or its home has passed the core's bound.
abbrev pub ReadWords : Shape → World → Type 0
ReadWords sh w = (c d x : ℕ) (b : Option ℕ) → c < sh.cores → d < sh.dirs → home sh (line_of x) ≡ d → IsBound b (pair w c d)
    → (w.cores c).cache.read x ≡ true → (is_some ((w.cores c).cache.value x) ≡ true) ⊎ IsPassed b (w.dirs d).serving.serving

-- an Inv of the word with a TID below the bound
abbrev pub dooms : Option ℕ → (word : ℕ) → Kind
dooms None x = InvWord x
dooms (Some b) x = InvBelow x b

-- the attempt will be rolled back for this word
pub record IsDoomed (b : Option ℕ) (x : ℕ) (v : Pair) : Type 0 where
  pub hit : 1 ≤ live (dooms b x) v.back
  pub read : v.core.cache.read x ≡ true
  pub valid : is_some (v.core.cache.value x) ≡ true

-- P of each word that was used and its value
abbrev pub EachUse : (ℕ → ℕ → Type 0) → Uses → Type 0
EachUse P [] = Unit {0}
EachUse P (u ∷ us) = P u.0 u.1 × EachUse P us

-- A word of the core's view has the value that it has for the core at its bound, or the attempt is doomed.
abbrev pub ViewedWords : Shape → (ℕ → ℕ) → World → List Noted → (views : ℕ → Uses) → Type 0
ViewedWords sh ram w cs views = (c d : ℕ) (b : Option ℕ) → c < sh.cores → d < sh.dirs → IsBound b (pair w c d)
    → EachUse (λ x y. home sh (line_of x) ≡ d → (y ≡ value_at sh.base ram cs (w.dirs d) (Some c) b x) ⊎ IsDoomed b x (pair w c d)) (views c)

-- A halted core's view is empty.
abbrev pub HaltedUsesNone : World → (views : ℕ → Uses) → Type 0
HaltedUsesNone w views = (c : ℕ) → (w.cores c).phase ≡ Halted → views c ≡ []
