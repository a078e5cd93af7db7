-- A trace with nothing shown besides the facts is the trace without records.
use Rattle.std.proofs.Common.{◌≡◌, ℕ, zero, suc, Bool, List, [], ◌∷◌, ◌++◌, drop, length, Option, Some, None, append-nil, refl, ap}
use Rattle.image_load.specs.Start.{Start}
use Rattle.rv_code.specs.Machine.{program}
use Rattle.rules_program.specs.Program.{Program}
use Rattle.rules_maps.specs.Shape.{Shape}
use Rattle.rules_bus.specs.State.{BusEvent, BusWorld}
use Rattle.rules_bus.specs.Step.{BusHistory, bus_next}
use Rattle.schedule_text.specs.Grammar.{joined}
use Rattle.watch_trace.specs.Text.{tail_text}
use Rattle.bus_trace.specs.Text.{bus_event_text, bus_event_texts, bus_head_text, bus_text_from, bus_trace_text, if_enabled}
use Rattle.bus_changes.specs.Text.{bus_facts_alone, bus_shown_from, bus_shown_text, bus_shown_texts, if_bus_shown, if_bus_taken}

pub plain-events : (sh : Shape) (p : Program) (es : List BusEvent) (h : BusHistory)
    → bus_shown_texts bus_facts_alone sh p es h ≡ bus_event_texts sh p es h
unfolding bus_shown_texts bus_event_texts
plain-events sh p [] h = refl
plain-events sh p (e ∷ es) h = go (λ k. plain-events sh p es k) (bus_next sh p h e)
  where
    go : ((k : BusHistory) → bus_shown_texts bus_facts_alone sh p es k ≡ bus_event_texts sh p es k) → (o : Option BusHistory)
        → if_bus_shown bus_facts_alone sh p e h (bus_shown_texts bus_facts_alone sh p es) o
        ≡ if_enabled (bus_event_text sh p h e) (bus_event_texts sh p es) o
    go ih None = refl
    go ih (Some k) = λ i. append-nil (bus_event_text sh p h e) i ∷ ih k i

-- the lines of events, with the facts alone
pub plain-from : (sh : Shape) (p : Program) (from : ℕ) (es : List BusEvent) (h : BusHistory)
    → bus_shown_from bus_facts_alone sh p from es h ≡ bus_text_from sh p from es h
unfolding bus_shown_from bus_event_texts bus_text_from
plain-from sh p zero es h = ap joined (plain-events sh p es h)
plain-from sh p (suc from) [] h = refl
plain-from sh p (suc from) (e ∷ es) h = go (λ k. plain-from sh p from es k) (bus_next sh p h e)
  where
    go : ((k : BusHistory) → bus_shown_from bus_facts_alone sh p from es k ≡ bus_text_from sh p from es k) → (o : Option BusHistory)
        → if_bus_taken (bus_shown_from bus_facts_alone sh p from es) o
        ≡ joined (drop (suc from) (if_enabled (bus_event_text sh p h e) (bus_event_texts sh p es) o))
    go ih None = refl
    go ih (Some k) = ih k

-- without records
pub plain-trace : (s : Start) (first : BusWorld) (from : ℕ) (es : List BusEvent) (done : Bool)
    → bus_shown_text bus_facts_alone s first from es done ≡ bus_trace_text s first from es done
unfolding bus_shown_text bus_trace_text
plain-trace s first from es done =
    ap (λ t. bus_head_text s.settings from ++ t ++ tail_text done (length es))
    (plain-from s.settings (program s) from es (record { world = first; commits = [] }))
