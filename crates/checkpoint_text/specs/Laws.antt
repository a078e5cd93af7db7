-- A checkpoint's text stands for one state of a program.
use Rattle.std.specs.Prelude.{ℕ, ◌≡◌, List, [], Some, slice_get}
use Rattle.core_node.specs.declared.state.Core.{Core}
use Rattle.directory.specs.Data.{DirData}
use Rattle.net_core.specs.Machine.{Machine, history_of, settings_of, start_of}
use Rattle.row_text.specs.Rows.{rows_text}
use Rattle.checkpoint_text.specs.Machines.{machine_tables}
use Rattle.checkpoint_text.specs.Tables.{tables_rows}

-- the text of a machine
unfoldable pub machine_text : Machine → List ℕ
machine_text m = rows_text (tables_rows (machine_tables m))

-- each core's cache is one of the core's settings
abbrev pub HaveOwnCaches : List Core → Type 0
HaveOwnCaches cs = (c : ℕ) (x : Core) → slice_get cs c ≡ Some x → x.cache.config ≡ x.config

-- each directory keeps the records and the words of the same lines
abbrev pub HaveOneHome : List DirData → Type 0
HaveOneHome ds = (d : ℕ) (x : DirData) → slice_get ds d ≡ Some x → x.words.place ≡ x.lines.place

-- its caches, directories and links are laid out by its settings, and all its messages stand on their links
pub record IsLaidOut (m : Machine) : Type 0 where
  pub caches : (c : ℕ) (x : Core) → slice_get m.cores.cores c ≡ Some x → x.cache.config ≡ settings_of m
  pub lines : (d : ℕ) (x : DirData) → slice_get m.dirs.dirs d ≡ Some x → x.lines.place ≡ record { shape = settings_of m; dir = d }
  pub words : HaveOneHome m.dirs.dirs
  pub link_cores : m.flights.cores ≡ (settings_of m).cores
  pub link_dirs : m.flights.dirs ≡ (settings_of m).dirs
  pub settled : m.unsent ≡ []

-- the same state of the rules, after as many events
pub record IsSameState (m n : Machine) : Type 0 where
  pub history : history_of m ≡ history_of n
  pub events : m.events ≡ n.events

-- Machines that began from the same start and have the same text are in the same state.
abbrev pub TextsTellMachinesApart : Type 0
TextsTellMachinesApart =
    (m n : Machine) → start_of m ≡ start_of n → IsLaidOut m → IsLaidOut n → machine_text m ≡ machine_text n → IsSameState m n
