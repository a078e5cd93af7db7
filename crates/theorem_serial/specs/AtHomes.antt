-- What lies in memory is found at its home: a directory is told of a line only where the line is below the number of lines.
use Rattle.std.specs.Prelude.{ℕ, ◌≡◌, ◌<◌, true, List}
use Rattle.tcc_base.specs.declared.access.Commit.{Commit as Noted}
use Rattle.tcc_base.specs.declared.access.Load.{Load}
use Rattle.tcc_base.specs.declared.access.Stored.{Stored}
use Rattle.rules_maps.specs.Cache.{Cache, IsCache, writes_at, reads_at}
use Rattle.rules_maps.specs.Shape.{Shape, home, lines}
use Rattle.rules_maps.specs.Words.{line_of}
use Rattle.theorem_serial.specs.InMemory.{FramesInMemory, AccessesInMemory, CommitsInMemory}
use Rattle.theorem_serial.specs.Stored.{stores_at}
use Rattle.theorem_serial.specs.Uses.{loads_word, stores_word}
use Rattle.theorem_serial.specs.Worked.{loads_at}
use Rattle.theorem_serial.specs.Wrote.{names_line, wrote_line}

-- a word that was loaded or stored was so at its line's home, and a line with a stored word is one of memory
pub record UsedAtHomes (sh : Shape) (loads : List Load) (stores : List Stored) : Type 0 where
  pub loaded : (x : ℕ) → loads_word sh.base loads x ≡ true → loads_at sh (home sh (line_of x)) loads ≡ true
  pub stored : (x : ℕ) → stores_word sh.base stores x ≡ true → stores_at sh (home sh (line_of x)) stores ≡ true
  pub in_line : (l : ℕ) → names_line sh.base stores l ≡ true → (l < lines sh) × (stores_at sh (home sh l) stores ≡ true)

-- a core reads and writes at the home of each word that is marked
pub record MarkedAtHomes (sh : Shape) (c : Cache) : Type 0 where
  pub read : (x : ℕ) → c.read x ≡ true → reads_at sh c (home sh (line_of x)) ≡ true
  pub modified : (x : ℕ) → c.modified x ≡ true → writes_at sh c (home sh (line_of x)) ≡ true

-- So it is where accesses and frames lie in memory.
abbrev pub AccessesAtHomes : Type 0
AccessesAtHomes = (sh : Shape) (loads : List Load) (stores : List Stored) → AccessesInMemory sh loads stores → UsedAtHomes sh loads stores

abbrev pub MarksAtHomes : Type 0
MarksAtHomes = (sh : Shape) (c : Cache) → IsCache sh c → FramesInMemory sh c → MarkedAtHomes sh c

-- A line that a commit of a core with a TID stored in is one of memory.
abbrev pub WrittenInMemory : Type 0
WrittenInMemory = (sh : Shape) (cs : List Noted) → CommitsInMemory sh cs → (c t l : ℕ) → wrote_line sh.base cs c t l ≡ true → l < lines sh
