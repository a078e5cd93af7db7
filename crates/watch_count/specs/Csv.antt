-- The totals as rows of a table: the names, and the numbers.
use Rattle.std.specs.Prelude.{ℕ, List, ◌++◌, Bool, true, false, Option, Some, None, codes}
use Rattle.std.specs.Fmt.{decimal}
use Rattle.tcc_base.specs.Settings.{Settings}
use Rattle.schedule_text.specs.Grammar.{newline}
use Rattle.watch_count.specs.declared.tables.CoreCounts.{CoreCounts}
use Rattle.watch_count.specs.declared.messages.MessageCounts.{MessageCounts}
use Rattle.watch_count.specs.Totals.{all_cores, all_messages, in_flight}
use Rattle.watch_count.specs.Counts.{Counts}

-- those of the five tables
abbrev pub table_names : List ℕ
table_names =
    codes ",attempts_begun,attempts_committed,attempts_violated,attempts_open,attempts_row,attempts_gaveup"
    ++ codes ",instructions_executed,instructions_committed,instructions_lost,instructions_open"
    ++ codes ",accesses_loads,accesses_stores,accesses_changes,accesses_misses,accesses_fills,accesses_overflows"
    ++ codes ",evictions_clean,evictions_dirty,evictions_modified"
    ++ codes ",phases_Running,phases_AwaitTid,phases_DoomedTid,phases_Probing"
    ++ codes ",phases_Ready,phases_Overflowing,phases_Solo,phases_Halted"

abbrev pub names : List ℕ
names =
    codes "tcc-count,cores,dirs,sets,ways,base,ram,seed,steps,end,events" ++ table_names
    ++ codes ",messages_sent,messages_took,messages_dropped,messages_asked,messages_flight"

-- a number, with the comma that stands before it
abbrev pub cell : ℕ → List ℕ
cell n = codes "," ++ decimal n

unfoldable pub settings_cells : Settings → List ℕ
settings_cells s = cell s.cores ++ cell s.dirs ++ cell s.sets ++ cell s.ways ++ cell s.base ++ cell s.ram

-- the seed and the number of steps of a run; a schedule has none
unfoldable pub seed_cells : Option (ℕ × ℕ) → List ℕ
seed_cells None = codes ",,"
seed_cells (Some seed) = cell seed.0 ++ cell seed.1

unfoldable pub end_cell : (done : Bool) → List ℕ
end_cell true = codes ",done"
end_cell false = codes ",open"

unfoldable pub attempts_cells : CoreCounts → List ℕ
attempts_cells c = cell c.attempts.begun ++ cell c.attempts.committed ++ cell c.attempts.violated
    ++ cell c.attempts.still_open ++ cell c.attempts.row ++ cell c.attempts.gave_up

unfoldable pub instructions_cells : CoreCounts → List ℕ
instructions_cells c = cell c.instructions.executed ++ cell c.instructions.committed
    ++ cell c.instructions.lost ++ cell c.instructions.still_open

unfoldable pub accesses_cells : CoreCounts → List ℕ
accesses_cells c = cell c.accesses.loads ++ cell c.accesses.stores ++ cell c.accesses.changes
    ++ cell c.accesses.misses ++ cell c.accesses.fills ++ cell c.accesses.overflows

unfoldable pub evictions_cells : CoreCounts → List ℕ
evictions_cells c = cell c.evictions.clean ++ cell c.evictions.dirty ++ cell c.evictions.modified

unfoldable pub phases_cells : CoreCounts → List ℕ
phases_cells c = cell c.phases.running ++ cell c.phases.await_tid ++ cell c.phases.doomed_tid ++ cell c.phases.probing
    ++ cell c.phases.ready ++ cell c.phases.overflowing ++ cell c.phases.solo ++ cell c.phases.halted

unfoldable pub core_cells : CoreCounts → List ℕ
core_cells c = attempts_cells c ++ instructions_cells c ++ accesses_cells c ++ evictions_cells c ++ phases_cells c

unfoldable pub messages_cells : MessageCounts → List ℕ
messages_cells m = cell m.sent ++ cell m.took ++ cell m.dropped ++ cell m.asked ++ cell (in_flight m)

-- the row of the names
unfoldable pub names_row : List ℕ
names_row = names ++ newline

-- the row of the numbers of all cores and of all kinds of message
unfoldable pub csv_row : Settings → (seed : Option (ℕ × ℕ)) → (done : Bool) → (events : ℕ) → Counts → List ℕ
csv_row s seed done events c =
    codes "1" ++ settings_cells s ++ seed_cells seed ++ end_cell done ++ cell events
    ++ core_cells (all_cores c.cores) ++ messages_cells (all_messages c.messages) ++ newline

-- both rows
unfoldable pub csv_text : Settings → (seed : Option (ℕ × ℕ)) → (done : Bool) → (events : ℕ) → Counts → List ℕ
csv_text s seed done events c = names_row ++ csv_row s seed done events c
