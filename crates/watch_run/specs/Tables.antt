-- A table of the totals, which grows while its run goes on: the names, a row after each so many events, and one after the last.
use Rattle.std.specs.Prelude.{ℕ, ◌≡◌, ◌<◌, ◌%◌, ◌==◌, ◌&&◌, ◌⊎◌, Bool, false, List, ◌++◌, Option, length, nat_le, nat_lt, take}
use Rattle.std.specs.Io.KnownBytes.{Appends}
use Rattle.std.specs.List.{flat_map}
use Rattle.image_load.specs.Start.{Start}
use Rattle.rules_maps.specs.Nodes.{Event}
use Rattle.rules_maps.specs.Words.{those}
use Rattle.rules_tcc.specs.Step.{History}
use Rattle.tcc_world.specs.Faults.{Rose}
use Rattle.tcc_world.specs.Page.{Written}
use Rattle.watch_count.specs.Csv.{csv_row, names_row}
use Rattle.watch_run.specs.Looked.{counts_of_run}
use Rattle.watch_run.specs.Written.{IsPart, LeadsTo}
use Rattle.watch_run.specs.declared.tabling.Rows.{Rows}
use Rattle.watch_run.specs.declared.tracing.Broken.{Broken}
use Rattle.watch_run.specs.declared.tracing.Broken.TheVariants.{Memory, Output}

-- the row after these events
abbrev pub row_of : Rows → Start → (done : Bool) → List Event → List ℕ
row_of rows s done es = csv_row s.settings rows.seed done (length es) (counts_of_run s es)

-- after so many events there is a row where others follow
abbrev pub is_due : Rows → (events : ℕ) → Bool
is_due rows n = nat_lt 0 n && n % rows.every == 0

-- the rows after fewer than n of these events
unfoldable pub rows_below : Rows → Start → List Event → (n : ℕ) → List ℕ
rows_below rows s es n = flat_map (λ k. row_of rows s false (take k es)) (those (is_due rows) n)

-- the rows after so many of these events or more, but fewer than n
unfoldable pub rows_between : Rows → Start → List Event → (first n : ℕ) → List ℕ
rows_between rows s es first n = flat_map (λ k. row_of rows s false (take k es)) (those (λ k. nat_le first k && is_due rows k) n)

-- the table without its last row, and the whole
unfoldable pub open_table : Rows → Start → List Event → List ℕ
open_table rows s es = names_row ++ rows_below rows s es (length es)

unfoldable pub table_text : Rows → Start → (done : Bool) → List Event → List ℕ
table_text rows s done es = open_table rows s es ++ row_of rows s done es

-- the whole table of these events stands behind what was told before
pub record IsTabled (rows : Rows) (s : Start) (es : List Event) (before after : Option (List ℕ)) (done : Bool) : Type 0 where
  pub ends : History
  pub leads : LeadsTo s es done ends
  pub whole : Appends before after (table_text rows s done es)

-- the table was begun, and nothing of its last row was written
abbrev pub IsTableBegun : Rows → Start → List Event → (before after : Option (List ℕ)) → Type 0
IsTableBegun rows s es before after = IsPart (open_table rows s es) before after

-- the whole table was made, and a first part of it was written, but not all
pub record IsTableCut (rows : Rows) (s : Start) (es : List Event) (before after : Option (List ℕ)) : Type 0 where
  pub done : Bool
  pub ends : History
  pub leads : LeadsTo s es done ends
  pub n : ℕ
  pub short : n < length (table_text rows s done es)
  pub cut : Appends before after (take n (table_text rows s done es))

-- why a table broke off, and what was written of it
abbrev pub IsTableBroken : Rows → Start → List Event → Written → Broken → Type 0
IsTableBroken rows s es o Memory = IsTableBegun rows s es o.before.bytes o.after.bytes
IsTableBroken rows s es o Output =
    (IsTableBegun rows s es o.before.bytes o.after.bytes ⊎ IsTableCut rows s es o.before.bytes o.after.bytes)
    × Rose o.before.faults o.after.faults

-- why these bytes weren't written: memory ran out before the first of them, or the output failed within them
abbrev pub IsCutIn : List ℕ → Written → Broken → Type 0
IsCutIn bytes o Memory = o.after.bytes ≡ o.before.bytes
IsCutIn bytes o Output =
    ((n : ℕ) × (n < length bytes) × Appends o.before.bytes o.after.bytes (take n bytes)) × Rose o.before.faults o.after.faults

-- why they broke off, where a first part of them was written
abbrev pub IsStoppedIn : List ℕ → Written → Broken → Type 0
IsStoppedIn bytes o Memory = IsPart bytes o.before.bytes o.after.bytes
IsStoppedIn bytes o Output = IsPart bytes o.before.bytes o.after.bytes × Rose o.before.faults o.after.faults

-- ---- the further part of a table, for a run that goes on

-- its rows from so many events on but the last, and all of them
unfoldable pub open_rest : Rows → Start → List Event → (first : ℕ) → List ℕ
open_rest rows s es first = rows_between rows s es first (length es)

unfoldable pub rest_text : Rows → Start → (done : Bool) → List Event → (first : ℕ) → List ℕ
rest_text rows s done es first = open_rest rows s es first ++ row_of rows s done es

-- behind the table of the first events without its last row, the rest makes the whole
abbrev pub TablesJoin : Type 0
TablesJoin = (rows : Rows) (s : Start) (done : Bool) (firsts more : List Event)
    → open_table rows s firsts ++ rest_text rows s done (firsts ++ more) (length firsts) ≡ table_text rows s done (firsts ++ more)
