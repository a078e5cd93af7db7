-- What one more event adds to the text of a run.
use Rattle.std.proofs.Common.{◌≡◌, ℕ, ◌<◌, ◌≤◌, Bool, true, false, List, [], ◌∷◌, ◌++◌, length, Option, Some, None, nat_le, if◌then◌else◌}
use Rattle.std.proofs.Common.{refl, ap, ◌∙◌, arith}
use Rattle.std.proofs.lemmas.Bool.Decides.{nat_tests}
use Rattle.std.proofs.lemmas.List.{append-nil, drop_all}
use Rattle.image_load.specs.Start.{Start}
use Rattle.rv_code.specs.Machine.{program}
use Rattle.rules_program.specs.Program.{Program}
use Rattle.rules_maps.specs.Shape.{Shape}
use Rattle.rules_bus.specs.State.{BusEvent, BusWorld}
use Rattle.rules_bus.specs.Step.{BusHistory, and_then, bus_next, bus_from}
use Rattle.schedule_text.specs.Grammar.{joined}
use Rattle.watch_trace.specs.Text.{tail_text}
use Rattle.watch_trace.proofs.Lemmas.{joined-from}
use Rattle.bus_trace.specs.Text.{bus_event_text, if_enabled, bus_event_texts, bus_text_from, bus_head_text, bus_trace_text}

-- the run by one more event
pub bus_run-more : (sh : Shape) (p : Program) (es : List BusEvent) (e : BusEvent) (h g : BusHistory) → bus_from sh p es h ≡ Some g
    → bus_from sh p (es ++ e ∷ []) h ≡ bus_next sh p g e
unfolding bus_from
bus_run-more sh p [] e h g r =
    let same : h ≡ g = cc in
    ap (λ k. and_then (λ i. Some i) (bus_next sh p k e)) same ∙ last (bus_next sh p g e)
  where
    last : (o : Option BusHistory) → and_then (λ k. Some k) o ≡ o
    last None = refl
    last (Some k) = refl
bus_run-more sh p (f ∷ es) e h g r = go (bus_next sh p h f) (λ k. bus_run-more sh p es e k g) r
  where
    go : (o : Option BusHistory)
        → ((k : BusHistory) → bus_from sh p es k ≡ Some g → bus_from sh p (es ++ e ∷ []) k ≡ bus_next sh p g e)
        → and_then (bus_from sh p es) o ≡ Some g
        → and_then (bus_from sh p (es ++ e ∷ [])) o ≡ bus_next sh p g e
    go None next q = absurd (cc)
    go (Some k) next q = next k q

-- each event that is enabled has a text
pub texts-length : (sh : Shape) (p : Program) (es : List BusEvent) (h g : BusHistory) → bus_from sh p es h ≡ Some g
    → length (bus_event_texts sh p es h) ≡ length es
unfolding bus_from bus_event_texts
texts-length sh p [] h g r = refl
texts-length sh p (f ∷ es) h g r = go (bus_next sh p h f) (λ k. texts-length sh p es k g) r
  where
    go : (o : Option BusHistory) → ((k : BusHistory) → bus_from sh p es k ≡ Some g → length (bus_event_texts sh p es k) ≡ length es)
        → and_then (bus_from sh p es) o ≡ Some g
        → length (if_enabled (bus_event_text sh p h f) (bus_event_texts sh p es) o) ≡ length (f ∷ es)
    go None next q = absurd (cc)
    go (Some k) next q = let rest = next k q in grind (arith, rest)

pub texts-more : (sh : Shape) (p : Program) (es : List BusEvent) (e : BusEvent) (h g i : BusHistory) → bus_from sh p es h ≡ Some g
    → bus_next sh p g e ≡ Some i
    → bus_event_texts sh p (es ++ e ∷ []) h ≡ bus_event_texts sh p es h ++ bus_event_text sh p g e ∷ []
unfolding bus_from bus_event_texts
texts-more sh p [] e h g i r s = let same : h ≡ g = cc in
    ap (λ k. if_enabled (bus_event_text sh p k e) (bus_event_texts sh p []) (bus_next sh p k e)) same
    ∙ ap (if_enabled (bus_event_text sh p g e) (bus_event_texts sh p [])) s
texts-more sh p (f ∷ es) e h g i r s = go (bus_next sh p h f) (λ k q. texts-more sh p es e k g i q s) r
  where
    go : (o : Option BusHistory)
        → ((k : BusHistory) → bus_from sh p es k ≡ Some g
        → bus_event_texts sh p (es ++ e ∷ []) k ≡ bus_event_texts sh p es k ++ bus_event_text sh p g e ∷ [])
        → and_then (bus_from sh p es) o ≡ Some g
        → if_enabled (bus_event_text sh p h f) (bus_event_texts sh p (es ++ e ∷ [])) o
        ≡ if_enabled (bus_event_text sh p h f) (bus_event_texts sh p es) o ++ bus_event_text sh p g e ∷ []
    go None next q = absurd (cc)
    go (Some k) next q = ap (λ ts. bus_event_text sh p h f ∷ ts) (next k q)

pub bus_text-more : (sh : Shape) (p : Program) (from : ℕ) (es : List BusEvent) (e : BusEvent) (h g i : BusHistory)
    → bus_from sh p es h ≡ Some g
    → bus_next sh p g e ≡ Some i
    → bus_text_from sh p from (es ++ e ∷ []) h
    ≡ bus_text_from sh p from es h ++ (if nat_le from (length es) then bus_event_text sh p g e else [])
unfolding bus_text_from
bus_text-more sh p from es e h g i r s =
    let more = texts-more sh p es e h g i r s in
    let count = texts-length sh p es h g r in
    let last = joined-from from (bus_event_texts sh p es h) (bus_event_text sh p g e) in
    grind (arith, more, count, last)

-- an event of the window is shown; one before it is not
pub bus_text-shown : (sh : Shape) (p : Program) (from : ℕ) (es : List BusEvent) (e : BusEvent) (h g i : BusHistory)
    → bus_from sh p es h ≡ Some g
    → bus_next sh p g e ≡ Some i → from ≤ length es
    → bus_text_from sh p from (es ++ e ∷ []) h ≡ bus_text_from sh p from es h ++ bus_event_text sh p g e
bus_text-shown sh p from es e h g i r s l =
    let test : nat_le from (length es) ≡ true = grind (arith, nat_tests) in
    bus_text-more sh p from es e h g i r s ∙ ap (λ b. bus_text_from sh p from es h ++ (if b then bus_event_text sh p g e else [])) test

pub bus_text-hidden : (sh : Shape) (p : Program) (from : ℕ) (es : List BusEvent) (e : BusEvent) (h g i : BusHistory)
    → bus_from sh p es h ≡ Some g
    → bus_next sh p g e ≡ Some i → length es < from
    → bus_text_from sh p from (es ++ e ∷ []) h ≡ bus_text_from sh p from es h
bus_text-hidden sh p from es e h g i r s l =
    let test : nat_le from (length es) ≡ false = grind (arith, nat_tests) in
    bus_text-more sh p from es e h g i r s ∙ ap (λ b. bus_text_from sh p from es h ++ (if b then bus_event_text sh p g e else [])) test
    ∙ append-nil (bus_text_from sh p from es h)

-- before the first event nothing is shown
pub bus_text-none : (sh : Shape) (p : Program) (from : ℕ) (h : BusHistory) → bus_text_from sh p from [] h ≡ []
unfolding bus_text_from bus_event_texts
bus_text-none sh p from h = ap joined (drop_all from [] (omega arith))

-- a trace is its first lines, the events, and its last lines
pub bus_trace-parts : (s : Start) (first : BusWorld) (from : ℕ) (es : List BusEvent) (done : Bool)
    → bus_trace_text s first from es done
    ≡ bus_head_text s.settings from ++ bus_text_from s.settings (program s) from es (record { world = first; commits = [] })
    ++ tail_text done (length es)
unfolding bus_trace_text
bus_trace-parts s first from es done = refl
