-- The text of counts: which lines it has, and in what order; and the two lines of a table.
use Rattle.std.specs.Prelude.{ℕ, ◌+◌, List, [], ◌∷◌, ◌++◌, Bool, Some, None, codes}
use Rattle.std.specs.List.{flat_map}
use Rattle.tcc_base.specs.Settings.{Settings}
use Rattle.schedule_text.specs.Grammar.{newline, config_line}
use Rattle.report_text.specs.Lines.{end_line, events_line}
use Rattle.watch_count.specs.declared.tables.CoreCounts.{CoreCounts}
use Rattle.watch_count.specs.declared.messages.MessageCounts.{MessageCounts}
use Rattle.watch_count.specs.declared.places.LineCounts.{LineCounts}
use Rattle.watch_count.specs.declared.places.Conflict.{Conflict}
use Rattle.watch_count.specs.declared.places.ConflictCounts.{ConflictCounts}
use Rattle.watch_count.specs.declared.rows.Table.{Table}
use Rattle.watch_count.specs.declared.rows.Table.TheVariants.{Attempts, Instructions, Accesses, Evictions, Phases}
use Rattle.watch_count.specs.Totals.{all_cores, all_messages}
use Rattle.watch_count.specs.Lines.{row, messages_line, line_line, conflict_line}
use Rattle.watch_count.specs.Counts.{Counts}

-- the rows of a table for the cores from this number on
unfoldable pub rows_from : Table → (core : ℕ) → List CoreCounts → List ℕ
rows_from t k [] = []
rows_from t k (c ∷ cs) = row t (Some k) c ++ rows_from t (k + 1) cs

-- a row for each core by number, and one for all
unfoldable pub table_text : Table → List CoreCounts → List ℕ
table_text t cs = rows_from t 0 cs ++ row t None (all_cores cs)

unfoldable pub tables_text : List CoreCounts → List ℕ
tables_text cs =
    table_text Attempts cs ++ table_text Instructions cs ++ table_text Accesses cs ++ table_text Evictions cs ++ table_text Phases cs

-- the lines of the kinds of message from this place on
unfoldable pub kinds_from : (place : ℕ) → List MessageCounts → List ℕ
kinds_from k [] = []
kinds_from k (m ∷ ms) = messages_line k m ++ kinds_from (k + 1) ms

-- a line for each kind, and one for all
unfoldable pub messages_text : List MessageCounts → List ℕ
messages_text ms = kinds_from 0 ms ++ messages_line 15 (all_messages ms)

abbrev pub entry_line : ℕ × LineCounts → List ℕ
entry_line e = line_line e.0 e.1

abbrev pub entry_conflict : Conflict × ConflictCounts → List ℕ
entry_conflict e = conflict_line e.0 e.1

-- the whole text: whether the run is done and how many events it took, as is told here
unfoldable pub count_text : Settings → (done : Bool) → (events : ℕ) → Counts → List ℕ
count_text s done events c =
    codes "tcc-count 1" ++ newline ++ config_line s ++ tables_text c.cores ++ messages_text c.messages
    ++ flat_map entry_line c.lines ++ flat_map entry_conflict c.conflicts ++ end_line done ++ events_line events
