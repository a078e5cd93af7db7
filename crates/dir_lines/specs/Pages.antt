-- An array of records as a map by line.
use Rattle.std.specs.Prelude.{ℕ, ◌/◌, Bool, ◌==◌, ◌&&◌, List, nat_lt, get_or, if◌then◌else◌}
use Rattle.rules_maps.specs.Shape.{lines, home}
use Rattle.dir_lines.specs.Home.{Home}
use Rattle.dir_lines.specs.Record.{Record, blank}

pub record Pages : Type 0 where
  pub place : Home
  pub records : List Record

abbrev pub is_at_home : Home → ℕ → Bool
is_at_home h l = nat_lt l (lines h.shape) && home h.shape l == h.dir

-- the line's record, a blank one where the line is at home elsewhere
unfoldable pub pages_at : Pages → ℕ → Record
pages_at p l = if is_at_home p.place l then get_or p.records (l / p.place.shape.dirs) blank else blank
