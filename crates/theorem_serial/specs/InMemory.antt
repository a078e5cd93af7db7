-- Where a program's accesses lie in memory, so do the lines that its cores hold and the words that they use and commit.
use Rattle.std.specs.Prelude.{ℕ, ◌+◌, ◌≡◌, ◌<◌, ◌≤◌, true, List, Contains, Some, is_some}
use Rattle.tcc_base.specs.declared.access.Commit.{Commit as Noted}
use Rattle.tcc_base.specs.declared.access.Load.{Load}
use Rattle.tcc_base.specs.declared.access.Stored.{Stored}
use Rattle.rules_program.specs.Program.{Local, Need, Loads, Stores, Changes, Program}
use Rattle.rules_program.specs.Ram.{word_of}
use Rattle.rules_maps.specs.Cache.{Cache}
use Rattle.rules_maps.specs.Shape.{Shape, lines}
use Rattle.rules_maps.specs.Words.{line_of}
use Rattle.rules_tcc.specs.State.{CoreState, Awaited, World}
use Rattle.theorem_serial.specs.Count.{LoadOf, FillOf, CopyOf, live}
use Rattle.theorem_serial.specs.Pairs.{pair}
use Rattle.theorem_serial.specs.Uses.{loads_word, stores_word}

-- programs

-- the word lies in a line of memory
abbrev pub WordInMemory : Shape → (word : ℕ) → Type 0
WordInMemory sh x = line_of x < lines sh

-- an access is to such a word
abbrev pub NeedInMemory : Shape → Need → Type 0
NeedInMemory sh (Loads addr size) = WordInMemory sh (word_of sh.base addr)
NeedInMemory sh (Stores addr size value) = WordInMemory sh (word_of sh.base addr)
NeedInMemory sh (Changes addr changed) = WordInMemory sh (word_of sh.base addr)
NeedInMemory sh _ = Unit {0}

-- a program whose accesses all lie in memory
abbrev pub StaysInMemory : Shape → Program → Type 0
StaysInMemory sh p = (l : Local) → NeedInMemory sh (p.need l)

-- what its runs keep

-- All lines that have frames are lines of memory.
abbrev pub FramesInMemory : Shape → Cache → Type 0
FramesInMemory sh c = (l : ℕ) → c.held l ≡ true → l < lines sh

-- All words that were loaded or stored lie in memory.
pub record AccessesInMemory (sh : Shape) (loads : List Load) (stores : List Stored) : Type 0 where
  pub loaded : (x : ℕ) → loads_word sh.base loads x ≡ true → WordInMemory sh x
  pub stored : (x : ℕ) → stores_word sh.base stores x ≡ true → WordInMemory sh x

-- So do those of an attempt and what it spilled, and the line that its core awaits.
pub record AttemptInMemory (sh : Shape) (s : CoreState) : Type 0 where
  pub accesses : AccessesInMemory sh s.loads s.stores
  pub spilled : (x : ℕ) → is_some (s.spilled x) ≡ true → WordInMemory sh x
  pub awaited : (a : Awaited) → s.awaited ≡ Some a → a.line < lines sh

-- So do those of each commit.
abbrev pub CommitsInMemory : Shape → List Noted → Type 0
CommitsInMemory sh cs = (n : Noted) → Contains cs n → AccessesInMemory sh n.loads n.stores

-- A load request and a Fill in flight are of a line of memory.
abbrev pub LoadsInMemory : Shape → World → Type 0
LoadsInMemory sh w = (c d l : ℕ) → 1 ≤ live (LoadOf l) (pair w c d).out + live (FillOf l) (pair w c d).back → l < lines sh

-- So are words on their way home.
abbrev pub CopiesInMemory : Shape → World → Type 0
CopiesInMemory sh w = (c d l t : ℕ) → 1 ≤ live (CopyOf l t) (pair w c d).out → l < lines sh
