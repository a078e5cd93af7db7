-- An ordered map of records as a map by line.
use Rattle.std.specs.Prelude.{ℕ, ◌%◌, ◌<◌, ◌≡◌, List, Option, IsSome, unwrap_or, if◌then◌else◌}
use Rattle.std.specs.Ordering.{nat_cmp}
use Rattle.std.specs.BTreeMap.{is_at}
use Rattle.std.specs.Map.{lookup}
use Rattle.dir_lines.specs.Home.{Home}
use Rattle.dir_lines.specs.Record.{Record, blank}
use Rattle.dir_lines.specs.Pages.{is_at_home}

pub record Filed : Type 0 where
  pub place : Home
  pub entries : List (ℕ × Record)

-- the record that is filed under a number
abbrev pub found : List (ℕ × Record) → ℕ → Option Record
found entries l = lookup (is_at (nat_cmp l)) entries

-- the line's record, a blank one where the line is at home elsewhere
unfoldable pub filed_at : Filed → ℕ → Record
filed_at m l = if is_at_home m.place l then unwrap_or (found m.entries l) blank else blank

-- all records are blank, and each of the first n lines that is at home at directory h of d has one
abbrev pub AllBlank : List (ℕ × Record) → Type 0
AllBlank entries = (l : ℕ) → unwrap_or (found entries l) blank ≡ blank

abbrev pub HasAll : ℕ → ℕ → ℕ → List (ℕ × Record) → Type 0
HasAll n d h entries = (l : ℕ) → l < n → l % d ≡ h → IsSome (found entries l)
