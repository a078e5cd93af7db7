-- What is counted of two schedules, whose facts are worked out in bus_watch.
use Rattle.std.specs.Prelude.{ℕ, ◌≡◌, List, [], ◌∷◌, ◌++◌, map, codes}
use Rattle.std.specs.List.{flat_map}
use Rattle.rules_bus.specs.Cases.{alone_events, reader_events}
use Rattle.rules_bus.specs.State.{BusEvent}
use Rattle.rules_bus.specs.Told.{e, x}
use Rattle.bus_watch.specs.Facts.{BusFact}
use Rattle.bus_watch.specs.Happened.{core_of}
use Rattle.bus_watch.specs.Worked.{alone_facts, reader_facts}
use Rattle.watch_count.specs.Text.{entry_conflict, entry_line}
use Rattle.watch_count.specs.Worked.{attempts_are, instructions_are, phases_are}
use Rattle.bus_count.specs.Counts.{BusCounts, bus_run_counted, nothing_on_bus}
use Rattle.bus_count.specs.Text.{packets_line}

-- each event's core and its facts
unfoldable pub bus_told : List BusEvent → List (List BusFact) → List (ℕ × List BusFact)
bus_told (e ∷ es) (fs ∷ rest) = (core_of e, fs) ∷ bus_told es rest
bus_told _ _ = []

-- what is counted of these events on two cores
abbrev pub counts_along : List BusEvent → List (List BusFact) → BusCounts
counts_along es facts = bus_run_counted (bus_told es facts) (nothing_on_bus 2)

-- core 1 commits over the word that core 0 has read, which begins anew
abbrev pub reader : BusCounts
reader = counts_along (reader_events ++ e 0 ∷ e 0 ∷ e 0 ∷ e 0 ∷ []) reader_facts

abbrev pub ReaderAttempts : Type 0
ReaderAttempts = map (λ c. c.attempts) reader.common.cores ≡ attempts_are 2 1 1 0 0 1 0 ∷ attempts_are 1 1 0 0 0 0 0 ∷ []

abbrev pub ReaderLines : Type 0
ReaderLines = flat_map entry_line reader.common.lines ≡ codes "line 0 misses 2 invalidations 1 violations 1 lost 1\n"

abbrev pub ReaderConflicts : Type 0
ReaderConflicts = flat_map entry_conflict reader.common.conflicts ≡ codes "conflict 1 0 0 1 1\n"

-- two packets were sent, and core 1 hasn't taken the second
abbrev pub ReaderPackets : Type 0
ReaderPackets = reader.packets ≡ record { sent = 2; took = 1; left = 1 }

abbrev pub ReaderPacketsLine : Type 0
ReaderPacketsLine = packets_line reader.packets ≡ codes "packets all sent 2 took 1 left 1\n"

-- core 0 has no way left, takes the bus and goes on alone, while core 1 waits for it
abbrev pub alone : BusCounts
alone = counts_along (alone_events ++ x 0 0 0 ∷ e 0 ∷ e 0 ∷ e 0 ∷ []) alone_facts

abbrev pub AloneAttempts : Type 0
AloneAttempts = map (λ c. c.attempts) alone.common.cores ≡ attempts_are 1 1 0 0 0 0 0 ∷ attempts_are 1 0 0 1 0 0 0 ∷ []

abbrev pub AloneInstructions : Type 0
AloneInstructions = map (λ c. c.instructions) alone.common.cores ≡ instructions_are 4 4 0 0 ∷ instructions_are 2 0 0 2 ∷ []

abbrev pub AlonePhases : Type 0
AlonePhases = map (λ c. c.phases) alone.common.cores ≡ phases_are 2 0 0 0 0 0 6 0 ∷ phases_are 4 4 0 0 0 0 0 0 ∷ []

-- no word came from memory, and the packet's two lines weren't taken
abbrev pub AloneLines : Type 0
AloneLines = alone.common.lines ≡ []

abbrev pub AlonePackets : Type 0
AlonePackets = alone.packets ≡ record { sent = 1; took = 0; left = 1 }
