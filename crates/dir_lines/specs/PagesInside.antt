-- The fields of an array of lines, and what always holds of them.
use Rattle.std.specs.Prelude.{◌≡◌, ◌*◌, ◌^◌, ◌≤◌, length}
use Rattle.dir_lines.specs.declared.pages.PageLines.TheInside.{Inside}
use Rattle.dir_lines.specs.Home.{IsHome, home_lines}
use Rattle.dir_lines.specs.Marking.{marked_at, IsMarked}
use Rattle.dir_lines.specs.Pages.{Pages}

abbrev pub pages_of : Inside → Pages
pages_of a = record { place = record { shape = a.cfg; dir = a.home.0 }; records = a.records.items }

-- there is a record for each line of the home, and the marked ones are told apart
pub record IsPages (a : Inside) : Type 0 where
  pub home : IsHome (pages_of a).place
  pub count : length a.records.items ≡ home_lines (pages_of a).place
  pub few : length a.records.items ≤ 2 ^ 20
  pub marks : IsMarked a.marks.few.items a.marks.many (marked_at a.records.items)
  pub room : length a.records.items ≤ 16 * length a.marks.many
