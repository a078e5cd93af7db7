-- What is counted of worked schedules, whose facts are worked out in watch.
use Rattle.std.specs.Prelude.{ℕ, ◌≡◌, List, [], ◌∷◌, ◌++◌, map, codes, get_or}
use Rattle.std.specs.List.{flat_map}
use Rattle.rules_maps.specs.Nodes.{Node, Event}
use Rattle.rules_tcc.specs.Schedules.{doomed_attempt, before_the_fill, over_a_dirty_owner, alone_after_overflow}
use Rattle.watch.specs.Facts.{Fact}
use Rattle.watch.specs.Happened.{actor}
use Rattle.watch.specs.Worked.{doomed_attempt_facts, before_the_fill_facts, over_a_dirty_owner_facts, alone_after_overflow_facts}
use Rattle.watch_count.specs.declared.tables.Attempts.{Attempts}
use Rattle.watch_count.specs.declared.tables.Instructions.{Instructions}
use Rattle.watch_count.specs.declared.tables.Accesses.{Accesses}
use Rattle.watch_count.specs.declared.tables.Evictions.{Evictions}
use Rattle.watch_count.specs.declared.tables.Phases.{Phases}
use Rattle.watch_count.specs.declared.messages.MessageCounts.{MessageCounts}
use Rattle.watch_count.specs.declared.rows.Table.TheVariants as table
use Rattle.watch_count.specs.Messages.{no_messages}
use Rattle.watch_count.specs.Counts.{Counts, nothing_counted, run_counted}
use Rattle.watch_count.specs.Text.{table_text, entry_line, entry_conflict}

-- each event's node and its facts
unfoldable pub told : List Event → List (List Fact) → List (Node × List Fact)
told (e ∷ es) (fs ∷ rest) = (actor e, fs) ∷ told es rest
told _ _ = []

-- what is counted of these events on two cores
abbrev pub counts_along : List Event → List (List Fact) → Counts
counts_along es facts = run_counted (told es facts) (nothing_counted 2)

abbrev pub attempts_are : (begun committed violated still_open unbroken row gave_up : ℕ) → Attempts
attempts_are b c v o u r g =
    record { begun = b; committed = c; violated = v; still_open = o; unbroken = u; row = r; gave_up = g }

abbrev pub instructions_are : (executed committed lost still_open : ℕ) → Instructions
instructions_are e c l o = record { executed = e; committed = c; lost = l; still_open = o }

abbrev pub accesses_are : (loads stores changes misses fills overflows : ℕ) → Accesses
accesses_are l s c m f o = record { loads = l; stores = s; changes = c; misses = m; fills = f; overflows = o }

abbrev pub evictions_are : (clean dirty modified : ℕ) → Evictions
evictions_are c d m = record { clean = c; dirty = d; modified = m }

abbrev pub phases_are : (running await_tid doomed_tid probing ready overflowing solo halted : ℕ) → Phases
phases_are r a d p y o s h =
    record { running = r; await_tid = a; doomed_tid = d; probing = p; ready = y; overflowing = o; solo = s; halted = h }

abbrev pub messages_are : (sent took dropped asked : ℕ) → MessageCounts
messages_are s t d a = record { sent = s; took = t; dropped = d; asked = a }

-- core 0 commits over what core 1 has read, and core 1 loses four instructions while it waits for its TID
abbrev pub doomed : Counts
doomed = counts_along doomed_attempt doomed_attempt_facts

abbrev pub DoomedAttempts : Type 0
DoomedAttempts = map (λ c. c.attempts) doomed.cores ≡ attempts_are 1 1 0 0 0 0 0 ∷ attempts_are 1 0 1 0 1 1 1 ∷ []

abbrev pub DoomedInstructions : Type 0
DoomedInstructions = map (λ c. c.instructions) doomed.cores ≡ instructions_are 3 3 0 0 ∷ instructions_are 4 0 4 0 ∷ []

abbrev pub DoomedPhases : Type 0
DoomedPhases = map (λ c. c.phases) doomed.cores ≡ phases_are 15 2 0 2 1 0 0 0 ∷ phases_are 7 11 2 0 0 0 0 0 ∷ []

abbrev pub DoomedLines : Type 0
DoomedLines = doomed.lines ≡ (3, record { misses = 1; invalidations = 1; violations = 1; lost = 4 }) ∷ []

abbrev pub DoomedConflicts : Type 0
DoomedConflicts = doomed.conflicts ≡ (record { by = 0; victim = 1; line = 3 }, record { violations = 1; lost = 4 }) ∷ []

abbrev pub DoomedRows : Type 0
DoomedRows =
    table_text table.Attempts doomed.cores
    ≡ codes "attempts 0 begun 1 committed 1 violated 0 open 0 row 0 gaveup 0\n"
    ++ codes "attempts 1 begun 1 committed 0 violated 1 open 0 row 1 gaveup 1\n"
    ++ codes "attempts all begun 2 committed 1 violated 1 open 0 row 1 gaveup 1\n"

abbrev pub DoomedPlaces : Type 0
DoomedPlaces =
    flat_map entry_line doomed.lines ++ flat_map entry_conflict doomed.conflicts
    ≡ codes "line 3 misses 1 invalidations 1 violations 1 lost 4\n" ++ codes "conflict 0 1 3 1 4\n"

-- the stale line is asked for again, and its owner is asked before it is sent: a second miss and a second Fill
abbrev pub StaleFillAccesses : Type 0
StaleFillAccesses =
    map (λ c. c.accesses) (counts_along before_the_fill before_the_fill_facts).cores
    ≡ accesses_are 0 1 0 0 0 0 ∷ accesses_are 1 1 0 2 2 0 ∷ []

abbrev pub StaleFillRequests : Type 0
StaleFillRequests =
    get_or (counts_along before_the_fill before_the_fill_facts).messages 2 no_messages ≡ messages_are 2 2 0 1

-- dirty words go home from both cores, and those that came too late are dropped
abbrev pub DirtyEvictions : Type 0
DirtyEvictions =
    map (λ c. c.evictions) (counts_along over_a_dirty_owner over_a_dirty_owner_facts).cores ≡ evictions_are 0 1 0 ∷ evictions_are 0 1 0 ∷ []

abbrev pub LateWriteBack : Type 0
LateWriteBack =
    get_or (counts_along over_a_dirty_owner over_a_dirty_owner_facts).messages 10 no_messages ≡ messages_are 2 1 1 0

-- core 0 has no way left, waits until it is alone, and puts its modified word aside
abbrev pub OverflowAccesses : Type 0
OverflowAccesses =
    map (λ c. c.accesses) (counts_along alone_after_overflow alone_after_overflow_facts).cores
    ≡ accesses_are 0 2 0 0 0 1 ∷ accesses_are 1 0 0 1 1 0 ∷ []

abbrev pub OverflowEvictions : Type 0
OverflowEvictions =
    map (λ c. c.evictions) (counts_along alone_after_overflow alone_after_overflow_facts).cores
    ≡ evictions_are 0 0 1 ∷ evictions_are 0 0 0 ∷ []
