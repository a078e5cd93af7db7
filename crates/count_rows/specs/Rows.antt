-- The rows of counts: what no number is above; table by table a row for each core, behind its number; a row for each kind of message,
-- behind its number; and a row for each line and for each conflict.
use Rattle.std.specs.Prelude.{ℕ, ◌+◌, List, [], ◌∷◌, map, codes}
use Rattle.std.specs.List.{flat_map}
use Rattle.row_text.specs.Rows.{Row, rows_text}
use Rattle.watch_count.specs.declared.rows.Table.{Table}
use Rattle.watch_count.specs.declared.rows.Table.TheVariants as table
use Rattle.watch_count.specs.declared.tables.PhaseName.{PhaseName}
use Rattle.watch_count.specs.declared.tables.PhaseName.TheVariants as name
use Rattle.watch_count.specs.declared.tables.Attempts.{Attempts}
use Rattle.watch_count.specs.declared.tables.Instructions.{Instructions}
use Rattle.watch_count.specs.declared.tables.Accesses.{Accesses}
use Rattle.watch_count.specs.declared.tables.Evictions.{Evictions}
use Rattle.watch_count.specs.declared.tables.Phases.{Phases}
use Rattle.watch_count.specs.declared.tables.CoreCounts.{CoreCounts}
use Rattle.watch_count.specs.declared.messages.MessageCounts.{MessageCounts}
use Rattle.watch_count.specs.declared.places.LineCounts.{LineCounts}
use Rattle.watch_count.specs.declared.places.Conflict.{Conflict}
use Rattle.watch_count.specs.declared.places.ConflictCounts.{ConflictCounts}
use Rattle.watch_count.specs.Counts.{Counts}

abbrev pub attempts_numbers : Attempts → List ℕ
attempts_numbers a = a.begun ∷ a.committed ∷ a.violated ∷ a.still_open ∷ a.unbroken ∷ a.row ∷ a.gave_up ∷ []

abbrev pub instructions_numbers : Instructions → List ℕ
instructions_numbers i = i.executed ∷ i.committed ∷ i.lost ∷ i.still_open ∷ []

abbrev pub accesses_numbers : Accesses → List ℕ
accesses_numbers a = a.loads ∷ a.stores ∷ a.changes ∷ a.misses ∷ a.fills ∷ a.overflows ∷ []

abbrev pub evictions_numbers : Evictions → List ℕ
evictions_numbers e = e.clean ∷ e.dirty ∷ e.modified ∷ []

-- a phase's place in the order of their list
abbrev pub phase_place : PhaseName → ℕ
phase_place name.Running = 0
phase_place name.AwaitTid = 1
phase_place name.DoomedTid = 2
phase_place name.Probing = 3
phase_place name.Ready = 4
phase_place name.Overflowing = 5
phase_place name.Solo = 6
phase_place name.Halted = 7

-- the events in each phase, and the phase that the core is in
abbrev pub phases_numbers : Phases → PhaseName → List ℕ
phases_numbers p now =
    p.running ∷ p.await_tid ∷ p.doomed_tid ∷ p.probing ∷ p.ready ∷ p.overflowing ∷ p.solo ∷ p.halted ∷ phase_place now ∷ []

abbrev pub table_word : Table → List ℕ
table_word table.Attempts = codes "attempts"
table_word table.Instructions = codes "instructions"
table_word table.Accesses = codes "accesses"
table_word table.Evictions = codes "evictions"
table_word table.Phases = codes "phases"

-- a core's numbers in a table
abbrev pub core_numbers : Table → CoreCounts → List ℕ
core_numbers table.Attempts c = attempts_numbers c.attempts
core_numbers table.Instructions c = instructions_numbers c.instructions
core_numbers table.Accesses c = accesses_numbers c.accesses
core_numbers table.Evictions c = evictions_numbers c.evictions
core_numbers table.Phases c = phases_numbers c.phases c.phase

-- sent, taken, dropped, and how often one asked its line's owner
abbrev pub message_numbers : MessageCounts → List ℕ
message_numbers m = m.sent ∷ m.took ∷ m.dropped ∷ m.asked ∷ []

-- the line, its misses, invalidations and violations, and the instructions that were lost
abbrev pub line_numbers : ℕ × LineCounts → List ℕ
line_numbers e = e.0 ∷ e.1.misses ∷ e.1.invalidations ∷ e.1.violations ∷ e.1.lost ∷ []

-- who committed, who was violated, the line, the violations, and the instructions that were lost
abbrev pub conflict_numbers : Conflict × ConflictCounts → List ℕ
conflict_numbers e = e.0.by ∷ e.0.victim ∷ e.0.line ∷ e.1.violations ∷ e.1.lost ∷ []

-- rows that begin with one word: the numbers of each
pub record Rows : Type 0 where
  pub word : List ℕ
  pub numbers : List (List ℕ)

unfoldable pub rows_of : Rows → List Row
rows_of r = map (λ numbers. record { word = r.word; numbers = numbers }) r.numbers

-- the rows of several, one behind another
unfoldable pub all_rows : List Rows → List Row
all_rows rs = flat_map rows_of rs

-- the numbers of each, behind its own number, which are numbered from k on
unfoldable pub numbered : {A : Type 0} → (A → List ℕ) → (k : ℕ) → List A → List (List ℕ)
numbered numbers k [] = []
numbered numbers k (x ∷ xs) = (k ∷ numbers x) ∷ numbered numbers (k + 1) xs

-- what no number is above
abbrev pub bound_rows : ℕ → Rows
bound_rows bound = record { word = codes "counted"; numbers = (bound ∷ []) ∷ [] }

-- a table of all cores
abbrev pub core_rows : Table → List CoreCounts → Rows
core_rows t cs = record { word = table_word t; numbers = numbered (core_numbers t) 0 cs }

-- the fifteen kinds of message, in their order
abbrev pub message_rows : List MessageCounts → Rows
message_rows ms = record { word = codes "messages"; numbers = numbered message_numbers 0 ms }

abbrev pub line_rows : List (ℕ × LineCounts) → Rows
line_rows es = record { word = codes "at-line"; numbers = map line_numbers es }

abbrev pub conflict_rows : List (Conflict × ConflictCounts) → Rows
conflict_rows es = record { word = codes "conflict"; numbers = map conflict_numbers es }

-- table by table
unfoldable pub counts_tables : Counts → List Rows
counts_tables c =
    bound_rows c.bound
    ∷ core_rows table.Attempts c.cores
    ∷ core_rows table.Instructions c.cores
    ∷ core_rows table.Accesses c.cores
    ∷ core_rows table.Evictions c.cores
    ∷ core_rows table.Phases c.cores
    ∷ message_rows c.messages
    ∷ line_rows c.lines
    ∷ conflict_rows c.conflicts
    ∷ []

-- all rows of counts
unfoldable pub counts_rows : Counts → List Row
counts_rows c = all_rows (counts_tables c)

-- the text of counts
unfoldable pub counts_text : Counts → List ℕ
counts_text c = rows_text (counts_rows c)
