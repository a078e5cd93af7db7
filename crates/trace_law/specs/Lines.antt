-- The text of a trace, and the schedule in it.
use Rattle.std.specs.Prelude.{ℕ, ◌==◌, ◌≡◌, Bool, false, not, List, [], ◌∷◌, ◌++◌, drop, length, map, filter, IsSome, if◌then◌else◌}
use Rattle.rules_maps.specs.Nodes.{Event}
use Rattle.rules_maps.specs.Shape.{Shape}
use Rattle.tcc_msg.specs.declared.event.Schedule.{Schedule}
use Rattle.rules_program.specs.Program.{Program}
use Rattle.rules_tcc.specs.Step.{History, run_from}
use Rattle.schedule_text.specs.Grammar.{newline, version_of, version_line, config_line, event_line, end_line, joined, text_of}
use Rattle.watch_trace.specs.Shown.{shown_event_of}
use Rattle.watch_trace.specs.Text.{event_and_facts, text_from}
use Rattle.trace_law.specs.Told.{Told, told}

-- the lines of each event and of what it did
abbrev pub lines_told : List Told → List (List ℕ)
lines_told ts = map (λ t. event_and_facts t.event t.facts) ts

-- the text of a trace is that of what is told, from number `from` on
abbrev pub LinesAreTold : Type 0
LinesAreTold =
    (sh : Shape) (p : Program) (from : ℕ) (es : List Event) (h : History)
    → text_from sh p from es h ≡ joined (drop from (lines_told (told sh p es h)))

-- a byte in front of the first line
abbrev pub with_byte : ℕ → List (List ℕ) → List (List ℕ)
with_byte b [] = (b ∷ []) ∷ []
with_byte b (line ∷ lines) = (b ∷ line) ∷ lines

-- the lines of a text, each with its line feed
unfoldable pub lines_in : List ℕ → List (List ℕ)
lines_in [] = []
lines_in (b ∷ bs) = if b == 10 then newline ∷ lines_in bs else with_byte b (lines_in bs)

abbrev pub begins_with_space : List ℕ → Bool
begins_with_space [] = false
begins_with_space (b ∷ bs) = b == 32

-- the lines that don't begin with a space, one after the other
unfoldable pub unindented : List ℕ → List ℕ
unindented text = joined (filter (λ line. not (begins_with_space line)) (lines_in text))

-- the lines of events, as in a schedule
abbrev pub event_lines : List Event → List ℕ
event_lines es = joined (map (λ e. event_line (shown_event_of e)) es)

-- they are the lines of a trace that don't begin with a space, from number `from` on
abbrev pub EventLines : Type 0
EventLines =
    (sh : Shape) (p : Program) (from : ℕ) (es : List Event) (h : History)
    → IsSome (run_from sh p es h) → unindented (text_from sh p from es h) ≡ event_lines (drop from es)

-- the text of a schedule is its first lines, those lines of a trace of its events, and its last line
abbrev pub ScheduleLines : Type 0
ScheduleLines =
    (sh : Shape) (p : Program) (es : List Event) (h : History) (s : Schedule)
    → IsSome (run_from sh p es h) → s.events ≡ map shown_event_of es
    → text_of s
    ≡ version_line (version_of s.config) ++ config_line s.config ++ unindented (text_from sh p 0 es h) ++ end_line (length es)
