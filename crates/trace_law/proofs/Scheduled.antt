-- The lines of a trace that don't begin with a space are those of its events.
use Rattle.std.proofs.Common.{◌≡◌, ◌==◌, ℕ, Bool, true, false, not, List, [], ◌∷◌, ◌++◌, map, drop, length, filter, Option, Some, None}
use Rattle.std.proofs.Common.{◌&&◌, IsSome, codes, if◌then◌else◌, cond, refl, sym, ap, ◌∙◌}
use Rattle.std.specs.Fmt.{decimal}
use Rattle.std.specs.List.{flat_map}
use Rattle.std.proofs.lemmas.Grind.{flat_map-append}
use Rattle.std.proofs.lemmas.List.{append-nil, append_assoc, drop-map, length-map}
use Rattle.rules_maps.specs.Nodes.{Event, Exec, Evict, Deliver}
use Rattle.rules_maps.specs.Shape.{Shape}
use Rattle.rules_program.specs.Program.{Program}
use Rattle.rules_tcc.specs.Step.{History, and_then, next_history, run_from}
use Rattle.schedule_text.specs.Grammar.{newline, version_of, version_line, config_line, node_word, event_line, end_line, lines_of, joined}
use Rattle.watch.specs.Facts.{Fact}
use Rattle.watch.specs.Happened.{happened}
use Rattle.watch_trace.specs.Lines.{fact_words, fact_line}
use Rattle.watch_trace.specs.Shown.{shown_node_of, shown_event_of}
use Rattle.watch_trace.specs.Text.{event_and_facts, event_text, if_enabled as if_enabled_text, event_texts, text_from}
use Rattle.trace_law.specs.Lines.{EventLines, LinesAreTold, ScheduleLines, event_lines, lines_told}
use Rattle.trace_law.specs.Lines.{lines_in, with_byte, begins_with_space, unindented}
use Rattle.trace_law.specs.Told.{Told, if_enabled, told}
use Rattle.trace_law.proofs.Words.{free, free-append, free-decimal, free-node, free-fact}

-- ---- one line

-- a text that ends with its only line feed
record IsLine (line : List ℕ) : Type 0 where
  body : List ℕ
  ends : line ≡ body ++ newline
  only : free body ≡ true

line-end : (body : List ℕ) → free body ≡ true → IsLine (body ++ newline)
line-end body e = record { body = body; ends = refl; only = e }

-- it is the first line of the text that it begins
lines-body : (body rest : List ℕ) → free body ≡ true → lines_in (body ++ 10 ∷ rest) ≡ (body ++ newline) ∷ lines_in rest
unfolding lines_in
lines-body [] rest e = refl
lines-body (b ∷ body) rest e = go (b == 10) e (lines-body body rest)
  where
    go : (c : Bool) → (not c && free body) ≡ true
        → (free body ≡ true → lines_in (body ++ 10 ∷ rest) ≡ (body ++ newline) ∷ lines_in rest)
        → (if c then newline ∷ lines_in (body ++ 10 ∷ rest) else with_byte b (lines_in (body ++ 10 ∷ rest)))
        ≡ (b ∷ body ++ newline) ∷ lines_in rest
    go true f next = absurd cc
    go false f next = ap (with_byte b) (next f)

lines-line : (line rest : List ℕ) → IsLine line → lines_in (line ++ rest) ≡ line ∷ lines_in rest
lines-line line rest l =
    ap (λ bs. lines_in (bs ++ rest)) l.ends ∙ ap lines_in (append_assoc l.body newline rest) ∙ lines-body l.body rest l.only
    ∙ ap (λ bs. bs ∷ lines_in rest) (sym l.ends)

unindented-line : (line rest : List ℕ) → IsLine line
    → unindented (line ++ rest) ≡ (if begins_with_space line then [] else line) ++ unindented rest
unfolding unindented
unindented-line line rest l =
    ap (λ ls. joined (filter (λ x. not (begins_with_space x)) ls)) (lines-line line rest l) ∙ go (begins_with_space line)
  where
    go : (b : Bool) → joined (cond (not b) (line ∷ filter (λ x. not (begins_with_space x)) (lines_in rest))
        (filter (λ x. not (begins_with_space x)) (lines_in rest)))
        ≡ (if b then [] else line) ++ joined (filter (λ x. not (begins_with_space x)) (lines_in rest))
    go true = refl
    go false = refl

-- ---- the lines of facts and events

fact-is-line : (f : Fact) → IsLine (fact_line f)
unfolding fact_line
fact-is-line f = line-end (codes " " ++ fact_words f) (free-fact f)

fact-indented : (f : Fact) → begins_with_space (fact_line f) ≡ true
unfolding fact_line
fact-indented f = refl

unindented-fact : (f : Fact) (rest : List ℕ) → unindented (fact_line f ++ rest) ≡ unindented rest
unindented-fact f rest =
    unindented-line (fact_line f) rest (fact-is-line f)
    ∙ ap (λ b. (if b then [] else fact_line f) ++ unindented rest) (fact-indented f)

unindented-facts : (fs : List Fact) (rest : List ℕ) → unindented (flat_map fact_line fs ++ rest) ≡ unindented rest
unindented-facts [] rest = refl
unindented-facts (f ∷ fs) rest =
    ap unindented (append_assoc (fact_line f) (flat_map fact_line fs) rest)
    ∙ unindented-fact f (flat_map fact_line fs ++ rest) ∙ unindented-facts fs rest

event-is-line : (e : Event) → IsLine (event_line (shown_event_of e))
unfolding event_line
event-is-line (Exec c) = line-end (codes "e " ++ decimal c) (free-decimal c)
event-is-line (Evict c x y) =
    line-end (codes "x " ++ decimal c ++ codes " " ++ decimal x ++ codes " " ++ decimal y) (simp (free-append, free-decimal))
event-is-line (Deliver src dst k) =
    line-end (codes "d " ++ node_word (shown_node_of src) ++ codes " " ++ node_word (shown_node_of dst) ++ codes " " ++ decimal k)
    (simp (free-append, free-node, free-decimal))

event-unindented : (e : Event) → begins_with_space (event_line (shown_event_of e)) ≡ false
unfolding event_line
event-unindented (Exec c) = refl
event-unindented (Evict c x y) = refl
event-unindented (Deliver src dst k) = refl

unindented-event : (e : Event) (fs : List Fact) (rest : List ℕ)
    → unindented (event_and_facts e fs ++ rest) ≡ event_line (shown_event_of e) ++ unindented rest
unfolding event_and_facts
unindented-event e fs rest =
    let line = event_line (shown_event_of e) in
    ap unindented (append_assoc line (flat_map fact_line fs) rest)
    ∙ unindented-line line (flat_map fact_line fs ++ rest) (event-is-line e)
    ∙ ap (λ b. (if b then [] else line) ++ unindented (flat_map fact_line fs ++ rest)) (event-unindented e)
    ∙ ap (λ bs. line ++ bs) (unindented-facts fs rest)

-- ---- what is told of a run

events_of : List Told → List Event
events_of ts = map (λ t. t.event) ts

unindented-told : (ts : List Told) → unindented (joined (lines_told ts)) ≡ event_lines (events_of ts)
unfolding unindented lines_in events_of
unindented-told [] = refl
unindented-told (t ∷ ts) =
    unindented-event t.event t.facts (joined (lines_told ts)) ∙ ap (λ bs. event_line (shown_event_of t.event) ++ bs) (unindented-told ts)

texts-told : (sh : Shape) (p : Program) (es : List Event) (h : History) → event_texts sh p es h ≡ lines_told (told sh p es h)
unfolding event_texts told
texts-told sh p [] h = refl
texts-told sh p (e ∷ es) h = go (next_history sh p h e) (texts-told sh p es)
  where
    go : (o : Option History) → ((i : History) → event_texts sh p es i ≡ lines_told (told sh p es i))
        → if_enabled_text (event_text sh p h e) (event_texts sh p es) o
        ≡ lines_told (if_enabled (record { event = e; facts = happened sh p h e }) (told sh p es) o)
    go None rest = refl
    go (Some i) rest = ap (λ ls. event_text sh p h e ∷ ls) (rest i)

-- a run's events are all told
runs-told : (sh : Shape) (p : Program) (es : List Event) (h : History) → IsSome (run_from sh p es h) → events_of (told sh p es h) ≡ es
unfolding run_from told events_of
runs-told sh p [] h some = refl
runs-told sh p (e ∷ es) h some = go (next_history sh p h e) some (runs-told sh p es)
  where
    go : (o : Option History) → IsSome (and_then (run_from sh p es) o)
        → ((i : History) → IsSome (run_from sh p es i) → map (λ t. t.event) (told sh p es i) ≡ es)
        → map (λ t. t.event) (if_enabled (record { event = e; facts = happened sh p h e }) (told sh p es) o) ≡ e ∷ es
    go None some rest = absurd cc
    go (Some i) some rest = ap (λ xs. e ∷ xs) (rest i some)

pub lines-are-told : LinesAreTold
unfolding text_from
lines-are-told sh p from es h = ap (λ ls. joined (drop from ls)) (texts-told sh p es h)

pub events-are-lines : EventLines
unfolding events_of
events-are-lines sh p from es h some =
    ap unindented (lines-are-told sh p from es h)
    ∙ ap (λ ls. unindented (joined ls)) (drop-map (λ t. event_and_facts t.event t.facts) from (told sh p es h))
    ∙ unindented-told (drop from (told sh p es h))
    ∙ ap event_lines (sym (drop-map (λ t. t.event) from (told sh p es h)) ∙ ap (drop from) (runs-told sh p es h some))

-- ---- the schedule

lines-shown : (es : List Event) → map event_line (map shown_event_of es) ≡ map (λ e. event_line (shown_event_of e)) es
lines-shown [] = refl
lines-shown (e ∷ es) = ap (λ ls. event_line (shown_event_of e) ∷ ls) (lines-shown es)

parts-joined : (first second last : List ℕ) (ls : List (List ℕ))
    → joined (first ∷ second ∷ (ls ++ last ∷ [])) ≡ first ++ second ++ joined ls ++ last
parts-joined first second last ls =
    ap (λ bs. first ++ (second ++ bs)) (flat_map-append (λ line. line) ls (last ∷ []) ∙ ap (λ bs. joined ls ++ bs) (append-nil last))
    ∙ sym (append_assoc first second (joined ls ++ last)) ∙ sym (append_assoc (first ++ second) (joined ls) last)

pub schedule-in-trace : ScheduleLines
unfolding lines_of
schedule-in-trace sh p es h s some same =
    parts-joined (version_line (version_of s.config)) (config_line s.config) (end_line (length s.events)) (map event_line s.events)
    ∙ ap (λ es. version_line (version_of s.config) ++ config_line s.config ++ joined (map event_line es) ++ end_line (length es)) same
    ∙ ap (λ n. version_line (version_of s.config) ++ config_line s.config ++ joined (map event_line (map shown_event_of es)) ++ end_line n)
    (length-map es shown_event_of)
    ∙ ap (λ ls. version_line (version_of s.config) ++ config_line s.config ++ joined ls ++ end_line (length es)) (lines-shown es)
    ∙ ap (λ bs. version_line (version_of s.config) ++ config_line s.config ++ bs ++ end_line (length es))
    (sym (events-are-lines sh p 0 es h some))
