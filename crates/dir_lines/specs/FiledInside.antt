-- The fields of an ordered map of lines, and what always holds of them.
use Rattle.std.specs.Prelude.{◌≡◌, ◌≤◌, vec_capacity}
use Rattle.rules_maps.specs.Words.{those}
use Rattle.rules_maps.specs.Shape.{lines}
use Rattle.rules_maps.specs.Lines.{has_mark}
use Rattle.dir_lines.specs.declared.tree.MapLines.TheInside.{Inside}
use Rattle.dir_lines.specs.Home.{IsHome, home_lines}
use Rattle.dir_lines.specs.Record.{lines_of}
use Rattle.dir_lines.specs.Filed.{Filed, filed_at, HasAll}

abbrev pub filed_of : Inside → Filed
filed_of a = record { place = record { shape = a.cfg; dir = a.home.0 }; entries = a.records.entries }

-- there is a record for each line of the home, the list is that of the marked lines, and it has room for all lines of the home
pub record IsFiled (a : Inside) : Type 0 where
  pub home : IsHome (filed_of a).place
  pub all : HasAll (lines a.cfg) a.cfg.dirs a.home.0 a.records.entries
  pub marked : a.marked.items ≡ those (has_mark (lines_of (filed_at (filed_of a)))) (lines a.cfg)
  pub room : home_lines (filed_of a).place ≤ vec_capacity a.marked
