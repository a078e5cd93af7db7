-- The text of a trace: what each event of a run did, event by event.
use Rattle.std.specs.Prelude.{ℕ, Bool, List, [], ◌∷◌, ◌++◌, Option, Some, None, length, drop, codes}
use Rattle.std.specs.Fmt.{decimal}
use Rattle.std.specs.List.{flat_map}
use Rattle.image_load.specs.Start.{Start}
use Rattle.rv_code.specs.Machine.{program}
use Rattle.tcc_base.specs.Settings.{Settings}
use Rattle.rules_program.specs.Program.{Program}
use Rattle.rules_maps.specs.Nodes.{Event}
use Rattle.rules_maps.specs.Shape.{Shape}
use Rattle.rules_tcc.specs.State.{World}
use Rattle.rules_tcc.specs.Step.{History, next_history}
use Rattle.schedule_text.specs.Grammar.{newline, config_line, event_line, joined}
use Rattle.report_text.specs.Lines.{end_line, events_line}
use Rattle.watch.specs.Facts.{Fact}
use Rattle.watch.specs.Happened.{happened}
use Rattle.watch_trace.specs.Shown.{shown_event_of}
use Rattle.watch_trace.specs.Lines.{fact_line}

-- an event, and below it its facts
unfoldable pub event_and_facts : Event → List Fact → List ℕ
event_and_facts e facts = event_line (shown_event_of e) ++ flat_map fact_line facts

-- what an event does in this state
abbrev pub event_text : Shape → Program → History → Event → List ℕ
event_text sh p h e = event_and_facts e (happened sh p h e)

-- nothing more where the event isn't enabled
abbrev pub if_enabled : List ℕ → (History → List (List ℕ)) → Option History → List (List ℕ)
if_enabled text rest None = []
if_enabled text rest (Some h) = text ∷ rest h

-- the text of each event, from this state on, up to the first that isn't enabled
unfoldable pub event_texts : Shape → Program → List Event → History → List (List ℕ)
event_texts sh p [] h = []
event_texts sh p (e ∷ es) h = if_enabled (event_text sh p h e) (event_texts sh p es) (next_history sh p h e)

-- the events from number `from` on, where the first one is number 0
unfoldable pub text_from : Shape → Program → (from : ℕ) → List Event → History → List ℕ
text_from sh p from es h = joined (drop from (event_texts sh p es h))

unfoldable pub version_line : List ℕ
version_line = codes "tcc-trace 1" ++ newline

-- the number of the first event that is shown
unfoldable pub from_line : (from : ℕ) → List ℕ
from_line from = codes "from " ++ decimal from ++ newline

-- the first lines: the version, the settings, and the number of the first event that is shown
unfoldable pub head_text : Settings → (from : ℕ) → List ℕ
head_text settings from = version_line ++ config_line settings ++ from_line from

-- the last lines: whether the run is done, and how many events it took
unfoldable pub tail_text : (done : Bool) → (events : ℕ) → List ℕ
tail_text done events = end_line done ++ events_line events

-- the trace of the run by these events from this state on; `done` is whether its end is done
unfoldable pub trace_text : Start → World → (from : ℕ) → List Event → (done : Bool) → List ℕ
trace_text s first from es done =
    head_text s.settings from ++ text_from s.settings (program s) from es (record { world = first; commits = [] })
    ++ tail_text done (length es)
