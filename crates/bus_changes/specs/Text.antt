-- The text of a trace with records: all of them where the window begins, and below each event's facts those of the acting core that
-- changed, and then those of the bus and of memory.
-- It is one definition with that of a trace without records: what is shown besides the facts is said apart.
use Rattle.std.specs.Prelude.{ℕ, zero, suc, Bool, true, false, List, [], ◌∷◌, ◌++◌, Option, Some, None, length, map}
use Rattle.image_load.specs.Start.{Start, first_ram}
use Rattle.rv_code.specs.Machine.{program}
use Rattle.rules_program.specs.Program.{Program}
use Rattle.rules_maps.specs.Shape.{Shape}
use Rattle.rules_bus.specs.State.{BusEvent, BusWorld}
use Rattle.rules_bus.specs.Step.{BusHistory, bus_next}
use Rattle.schedule_text.specs.Grammar.{joined}
use Rattle.watch_trace.specs.Text.{tail_text}
use Rattle.watch_changes.specs.Changes.{all_lines, change_lines, changes}
use Rattle.bus_watch.specs.Happened.{core_of}
use Rattle.bus_trace.specs.Text.{bus_event_text, bus_head_text}
use Rattle.bus_state.specs.Parts.{bus_core_records, bus_records, cores_records}
use Rattle.bus_changes.specs.Changes.{Told, bus_change_lines, bus_changes}

-- what is shown besides the facts: of the state where the window begins, and of an event that leads from one state to another
pub record BusShows : Type 0 where
  pub begins : BusWorld → List ℕ
  pub event : (before after : BusWorld) → BusEvent → List ℕ

abbrev pub bus_facts_alone : BusShows
bus_facts_alone = record { begins = λ w. []; event = λ w v e. [] }

-- all records
unfoldable pub bus_all_lines : Shape → (first : ℕ → ℕ) → BusWorld → List ℕ
bus_all_lines sh first w = all_lines (cores_records sh w) ++ bus_change_lines (map Told (bus_records sh first w))

-- what changed of a core's records, and of those of the bus and of memory
unfoldable pub bus_changes_lines : Shape → (first : ℕ → ℕ) → (core : ℕ) → (before after : BusWorld) → List ℕ
bus_changes_lines sh first c w v =
    change_lines (changes (bus_core_records sh c (w.cores c)) (bus_core_records sh c (v.cores c)))
    ++ bus_change_lines (bus_changes sh first w v)

abbrev pub bus_with_records : Start → BusShows
bus_with_records s = record {
  begins = λ w. bus_all_lines s.settings (first_ram s) w;
  event = λ w v e. bus_changes_lines s.settings (first_ram s) (core_of e) w v;
}

-- nothing besides the facts, or the records too
abbrev pub bus_shows : (records : Bool) → Start → BusShows
bus_shows false s = bus_facts_alone
bus_shows true s = bus_with_records s

-- an event that is enabled, and the events behind it
abbrev pub if_bus_shown : BusShows → Shape → Program → BusEvent → BusHistory → (BusHistory → List (List ℕ)) → Option BusHistory
    → List (List ℕ)
if_bus_shown x sh p e h rest None = []
if_bus_shown x sh p e h rest (Some k) = (bus_event_text sh p h e ++ x.event h.world k.world e) ∷ rest k

-- the text of each event, from this state on, up to the first that isn't enabled
unfoldable pub bus_shown_texts : BusShows → Shape → Program → List BusEvent → BusHistory → List (List ℕ)
bus_shown_texts x sh p [] h = []
bus_shown_texts x sh p (e ∷ es) h = if_bus_shown x sh p e h (bus_shown_texts x sh p es) (bus_next sh p h e)

abbrev pub if_bus_taken : (BusHistory → List ℕ) → Option BusHistory → List ℕ
if_bus_taken rest None = []
if_bus_taken rest (Some h) = rest h

-- from event number `from` on; nothing where fewer are taken
unfoldable pub bus_shown_from : BusShows → Shape → Program → (from : ℕ) → List BusEvent → BusHistory → List ℕ
bus_shown_from x sh p zero es h = x.begins h.world ++ joined (bus_shown_texts x sh p es h)
bus_shown_from x sh p (suc from) [] h = []
bus_shown_from x sh p (suc from) (e ∷ es) h = if_bus_taken (bus_shown_from x sh p from es) (bus_next sh p h e)

unfoldable pub bus_shown_text : BusShows → Start → BusWorld → (from : ℕ) → List BusEvent → (done : Bool) → List ℕ
bus_shown_text x s first from es done =
    bus_head_text s.settings from
    ++ bus_shown_from x s.settings (program s) from es (record { world = first; commits = [] })
    ++ tail_text done (length es)

-- the trace with records of the run by these events from this state on; `done` is whether its end is done
unfoldable pub bus_states_text : Start → BusWorld → (from : ℕ) → List BusEvent → (done : Bool) → List ℕ
bus_states_text s first from es done = bus_shown_text (bus_shows true s) s first from es done
