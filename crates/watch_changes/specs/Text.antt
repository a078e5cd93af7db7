-- The text of a trace with records: all of them where the window begins, with the messages in flight, and below each event's facts those of
-- the acting node that changed.
-- It is one definition with that of a trace without records: what is shown besides the facts is said apart.
use Rattle.std.specs.Prelude.{ℕ, zero, suc, Bool, true, false, nat_le, ◌==◌, List, [], ◌∷◌, ◌++◌, Option, Some, None, length}
use Rattle.std.specs.Prelude.{if◌then◌else◌}
use Rattle.image_load.specs.Start.{Start, first_ram}
use Rattle.rv_code.specs.Machine.{program}
use Rattle.rules_program.specs.Program.{Program}
use Rattle.rules_maps.specs.Nodes.{Event}
use Rattle.rules_maps.specs.Shape.{Shape}
use Rattle.rules_tcc.specs.State.{World}
use Rattle.rules_tcc.specs.Step.{History, next_history}
use Rattle.schedule_text.specs.Grammar.{joined}
use Rattle.watch.specs.Happened.{actor}
use Rattle.watch_state.specs.Text.{state_records}
use Rattle.watch_trace.specs.Text.{event_text, head_text, tail_text}
use Rattle.watch_changes.specs.Changes.{Change, change_lines, changes}
use Rattle.watch_changes.specs.Nodes.{records_at}

-- what is shown besides the facts: of the state where the window begins, and of an event that leads from one state to another
pub record Shows : Type 0 where
  pub begins : World → List ℕ
  pub event : (before after : World) → Event → List ℕ

abbrev pub facts_alone : Shows
facts_alone = record { begins = λ w. []; event = λ w v e. [] }

-- what changed of the node that acts
abbrev pub acting_changes : Shape → (first : ℕ → ℕ) → (before after : World) → Event → List Change
acting_changes sh first w v e = changes (records_at sh first w (actor e)) (records_at sh first v (actor e))

abbrev pub with_records : Start → Shows
with_records s = record {
  begins = λ w. change_lines (changes [] (state_records s w));
  event = λ w v e. change_lines (acting_changes s.settings (first_ram s) w v e);
}

-- nothing besides the facts, or the records too
abbrev pub shows : (records : Bool) → Start → Shows
shows false s = facts_alone
shows true s = with_records s

-- an event that is enabled, and the events behind it
abbrev pub if_shown : Shows → Shape → Program → Event → History → (History → List (List ℕ)) → Option History → List (List ℕ)
if_shown x sh p e h rest None = []
if_shown x sh p e h rest (Some k) = (event_text sh p h e ++ x.event h.world k.world e) ∷ rest k

-- the text of each event, from this state on, up to the first that isn't enabled
unfoldable pub shown_texts : Shows → Shape → Program → List Event → History → List (List ℕ)
shown_texts x sh p [] h = []
shown_texts x sh p (e ∷ es) h = if_shown x sh p e h (shown_texts x sh p es) (next_history sh p h e)

abbrev pub if_taken : (History → List ℕ) → Option History → List ℕ
if_taken rest None = []
if_taken rest (Some h) = rest h

-- from event number `from` on; nothing where fewer are taken
unfoldable pub shown_from : Shows → Shape → Program → (from : ℕ) → List Event → History → List ℕ
shown_from x sh p zero es h = x.begins h.world ++ joined (shown_texts x sh p es h)
shown_from x sh p (suc from) [] h = []
shown_from x sh p (suc from) (e ∷ es) h = if_taken (shown_from x sh p from es) (next_history sh p h e)

unfoldable pub shown_text : Shows → Start → World → (from : ℕ) → List Event → (done : Bool) → List ℕ
shown_text x s first from es done =
    head_text s.settings from ++ shown_from x s.settings (program s) from es (record { world = first; commits = [] })
    ++ tail_text done (length es)

-- what event number `number`, which leads from one state to another, adds to the events from number `from` on: what it did and what is
-- shown besides, and just before the first of them what is shown where the window begins
unfoldable pub added : Shows → Shape → Program → (from number : ℕ) → Event → (before after : History) → List ℕ
added x sh p from number e h k =
    if nat_le from number then event_text sh p h e ++ x.event h.world k.world e
    else if from == suc number then x.begins k.world
    else []

-- the trace with records of the run by these events from this state on; `done` is whether its end is done
unfoldable pub states_text : Start → World → (from : ℕ) → List Event → (done : Bool) → List ℕ
states_text s first from es done = shown_text (shows true s) s first from es done
