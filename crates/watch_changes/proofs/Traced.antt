-- A trace with nothing shown besides the facts is the trace without records.
use Rattle.std.proofs.Common.{◌≡◌, ℕ, zero, suc, Bool, List, [], ◌∷◌, ◌++◌, drop, length, Option, Some, None, append-nil, refl, ap}
use Rattle.image_load.specs.Start.{Start}
use Rattle.rv_code.specs.Machine.{program}
use Rattle.rules_program.specs.Program.{Program}
use Rattle.rules_maps.specs.Nodes.{Event}
use Rattle.rules_maps.specs.Shape.{Shape}
use Rattle.rules_tcc.specs.State.{World}
use Rattle.rules_tcc.specs.Step.{History, next_history}
use Rattle.schedule_text.specs.Grammar.{joined}
use Rattle.watch_trace.specs.Text.{event_text, event_texts, head_text, if_enabled, tail_text, text_from, trace_text}
use Rattle.watch_changes.specs.Text.{facts_alone, if_shown, if_taken, shown_from, shown_text, shown_texts}

plain-events : (sh : Shape) (p : Program) (es : List Event) (h : History) → shown_texts facts_alone sh p es h ≡ event_texts sh p es h
unfolding shown_texts event_texts
plain-events sh p [] h = refl
plain-events sh p (e ∷ es) h = go (λ k. plain-events sh p es k) (next_history sh p h e)
  where
    go : ((k : History) → shown_texts facts_alone sh p es k ≡ event_texts sh p es k) → (o : Option History)
        → if_shown facts_alone sh p e h (shown_texts facts_alone sh p es) o ≡ if_enabled (event_text sh p h e) (event_texts sh p es) o
    go ih None = refl
    go ih (Some k) = λ i. append-nil (event_text sh p h e) i ∷ ih k i

-- the lines of events, with the facts alone
pub plain-from : (sh : Shape) (p : Program) (from : ℕ) (es : List Event) (h : History)
    → shown_from facts_alone sh p from es h ≡ text_from sh p from es h
unfolding shown_from event_texts text_from
plain-from sh p zero es h = ap joined (plain-events sh p es h)
plain-from sh p (suc from) [] h = refl
plain-from sh p (suc from) (e ∷ es) h = go (λ k. plain-from sh p from es k) (next_history sh p h e)
  where
    go : ((k : History) → shown_from facts_alone sh p from es k ≡ text_from sh p from es k) → (o : Option History)
        → if_taken (shown_from facts_alone sh p from es) o
        ≡ joined (drop (suc from) (if_enabled (event_text sh p h e) (event_texts sh p es) o))
    go ih None = refl
    go ih (Some k) = ih k

-- without records
pub plain-trace : (s : Start) (first : World) (from : ℕ) (es : List Event) (done : Bool)
    → shown_text facts_alone s first from es done ≡ trace_text s first from es done
unfolding shown_text trace_text
plain-trace s first from es done =
    ap (λ t. head_text s.settings from ++ t ++ tail_text done (length es))
    (plain-from s.settings (program s) from es (record { world = first; commits = [] }))
