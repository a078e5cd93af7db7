-- What one more event adds to the text of a run.
use Rattle.std.proofs.Common.{◌≡◌, ℕ, ◌<◌, ◌≤◌, Bool, true, false, List, [], ◌∷◌, ◌++◌, length, Option, Some, None, nat_le, if◌then◌else◌}
use Rattle.std.proofs.Common.{refl, ap, ◌∙◌, arith}
use Rattle.std.proofs.lemmas.Bool.Decides.{nat_tests}
use Rattle.std.proofs.lemmas.List.{append-nil, drop_all}
use Rattle.image_load.specs.Start.{Start}
use Rattle.rv_code.specs.Machine.{program}
use Rattle.rules_program.specs.Program.{Program}
use Rattle.rules_maps.specs.Nodes.{Event}
use Rattle.rules_maps.specs.Shape.{Shape}
use Rattle.rules_tcc.specs.State.{World}
use Rattle.rules_tcc.specs.Step.{History, and_then, next_history, run_from}
use Rattle.schedule_text.specs.Grammar.{joined}
use Rattle.watch_trace.specs.Text.{event_text, if_enabled, event_texts, text_from, head_text, tail_text, trace_text}
use Rattle.watch_trace.proofs.Lists.{joined-from}

-- the run by one more event
pub run-more : (sh : Shape) (p : Program) (es : List Event) (e : Event) (h g : History) → run_from sh p es h ≡ Some g
    → run_from sh p (es ++ e ∷ []) h ≡ next_history sh p g e
unfolding run_from
run-more sh p [] e h g r =
    let same : h ≡ g = cc in
    ap (λ k. and_then (λ i. Some i) (next_history sh p k e)) same ∙ last (next_history sh p g e)
  where
    last : (o : Option History) → and_then (λ k. Some k) o ≡ o
    last None = refl
    last (Some k) = refl
run-more sh p (f ∷ es) e h g r = go (next_history sh p h f) (λ k. run-more sh p es e k g) r
  where
    go : (o : Option History)
        → ((k : History) → run_from sh p es k ≡ Some g → run_from sh p (es ++ e ∷ []) k ≡ next_history sh p g e)
        → and_then (run_from sh p es) o ≡ Some g
        → and_then (run_from sh p (es ++ e ∷ [])) o ≡ next_history sh p g e
    go None next q = absurd (cc)
    go (Some k) next q = next k q

-- each event that is enabled has a text
pub texts-length : (sh : Shape) (p : Program) (es : List Event) (h g : History) → run_from sh p es h ≡ Some g
    → length (event_texts sh p es h) ≡ length es
unfolding run_from event_texts
texts-length sh p [] h g r = refl
texts-length sh p (f ∷ es) h g r = go (next_history sh p h f) (λ k. texts-length sh p es k g) r
  where
    go : (o : Option History) → ((k : History) → run_from sh p es k ≡ Some g → length (event_texts sh p es k) ≡ length es)
        → and_then (run_from sh p es) o ≡ Some g
        → length (if_enabled (event_text sh p h f) (event_texts sh p es) o) ≡ length (f ∷ es)
    go None next q = absurd (cc)
    go (Some k) next q = let rest = next k q in grind (arith, rest)

pub texts-more : (sh : Shape) (p : Program) (es : List Event) (e : Event) (h g i : History) → run_from sh p es h ≡ Some g
    → next_history sh p g e ≡ Some i
    → event_texts sh p (es ++ e ∷ []) h ≡ event_texts sh p es h ++ event_text sh p g e ∷ []
unfolding run_from event_texts
texts-more sh p [] e h g i r s = let same : h ≡ g = cc in
    ap (λ k. if_enabled (event_text sh p k e) (event_texts sh p []) (next_history sh p k e)) same
    ∙ ap (if_enabled (event_text sh p g e) (event_texts sh p [])) s
texts-more sh p (f ∷ es) e h g i r s = go (next_history sh p h f) (λ k q. texts-more sh p es e k g i q s) r
  where
    go : (o : Option History)
        → ((k : History) → run_from sh p es k ≡ Some g
        → event_texts sh p (es ++ e ∷ []) k ≡ event_texts sh p es k ++ event_text sh p g e ∷ [])
        → and_then (run_from sh p es) o ≡ Some g
        → if_enabled (event_text sh p h f) (event_texts sh p (es ++ e ∷ [])) o
        ≡ if_enabled (event_text sh p h f) (event_texts sh p es) o ++ event_text sh p g e ∷ []
    go None next q = absurd (cc)
    go (Some k) next q = ap (λ ts. event_text sh p h f ∷ ts) (next k q)

pub text-more : (sh : Shape) (p : Program) (from : ℕ) (es : List Event) (e : Event) (h g i : History) → run_from sh p es h ≡ Some g
    → next_history sh p g e ≡ Some i
    → text_from sh p from (es ++ e ∷ []) h
    ≡ text_from sh p from es h ++ (if nat_le from (length es) then event_text sh p g e else [])
unfolding text_from
text-more sh p from es e h g i r s =
    let more = texts-more sh p es e h g i r s in
    let count = texts-length sh p es h g r in
    let last = joined-from from (event_texts sh p es h) (event_text sh p g e) in
    grind (arith, more, count, last)

-- an event of the window is shown; one before it is not
pub text-shown : (sh : Shape) (p : Program) (from : ℕ) (es : List Event) (e : Event) (h g i : History) → run_from sh p es h ≡ Some g
    → next_history sh p g e ≡ Some i → from ≤ length es
    → text_from sh p from (es ++ e ∷ []) h ≡ text_from sh p from es h ++ event_text sh p g e
text-shown sh p from es e h g i r s l =
    let test : nat_le from (length es) ≡ true = grind (arith, nat_tests) in
    text-more sh p from es e h g i r s ∙ ap (λ b. text_from sh p from es h ++ (if b then event_text sh p g e else [])) test

pub text-hidden : (sh : Shape) (p : Program) (from : ℕ) (es : List Event) (e : Event) (h g i : History) → run_from sh p es h ≡ Some g
    → next_history sh p g e ≡ Some i → length es < from
    → text_from sh p from (es ++ e ∷ []) h ≡ text_from sh p from es h
text-hidden sh p from es e h g i r s l =
    let test : nat_le from (length es) ≡ false = grind (arith, nat_tests) in
    text-more sh p from es e h g i r s ∙ ap (λ b. text_from sh p from es h ++ (if b then event_text sh p g e else [])) test
    ∙ append-nil (text_from sh p from es h)

-- before the first event nothing is shown
pub text-none : (sh : Shape) (p : Program) (from : ℕ) (h : History) → text_from sh p from [] h ≡ []
unfolding text_from event_texts
text-none sh p from h = ap joined (drop_all from [] (omega arith))

-- a trace is its first lines, the events, and its last lines
pub trace-parts : (s : Start) (first : World) (from : ℕ) (es : List Event) (done : Bool)
    → trace_text s first from es done
    ≡ head_text s.settings from ++ text_from s.settings (program s) from es (record { world = first; commits = [] })
    ++ tail_text done (length es)
unfolding trace_text
trace-parts s first from es done = refl
