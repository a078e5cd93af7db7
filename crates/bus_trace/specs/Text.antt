-- The text of a trace: what each event of a run did, event by event.
use Rattle.std.specs.Prelude.{ℕ, Bool, List, [], ◌∷◌, ◌++◌, Option, Some, None, length, drop, codes}
use Rattle.std.specs.List.{flat_map}
use Rattle.image_load.specs.Start.{Start}
use Rattle.rv_code.specs.Machine.{program}
use Rattle.tcc_base.specs.Settings.{Settings}
use Rattle.rules_program.specs.Program.{Program}
use Rattle.rules_maps.specs.Shape.{Shape}
use Rattle.rules_bus.specs.State.{BusEvent, BusWorld}
use Rattle.rules_bus.specs.Step.{BusHistory, bus_next}
use Rattle.schedule_text.specs.Grammar.{newline, joined}
use Rattle.watch_trace.specs.Text.{from_line, tail_text}
use Rattle.bus_watch.specs.Facts.{BusFact}
use Rattle.bus_watch.specs.Happened.{bus_happened}
use Rattle.bus_trace.specs.Lines.{bus_config_line, bus_event_line, bus_fact_line}

-- an event, and below it its facts
unfoldable pub bus_event_and_facts : BusEvent → List BusFact → List ℕ
bus_event_and_facts e facts = bus_event_line e ++ flat_map bus_fact_line facts

-- what an event does in this state
abbrev pub bus_event_text : Shape → Program → BusHistory → BusEvent → List ℕ
bus_event_text sh p h e = bus_event_and_facts e (bus_happened sh p h e)

-- nothing more where the event isn't enabled
abbrev pub if_enabled : List ℕ → (BusHistory → List (List ℕ)) → Option BusHistory → List (List ℕ)
if_enabled text rest None = []
if_enabled text rest (Some h) = text ∷ rest h

-- the text of each event, from this state on, up to the first that isn't enabled
unfoldable pub bus_event_texts : Shape → Program → List BusEvent → BusHistory → List (List ℕ)
bus_event_texts sh p [] h = []
bus_event_texts sh p (e ∷ es) h = if_enabled (bus_event_text sh p h e) (bus_event_texts sh p es) (bus_next sh p h e)

-- the events from number `from` on, where the first one is number 0
unfoldable pub bus_text_from : Shape → Program → (from : ℕ) → List BusEvent → BusHistory → List ℕ
bus_text_from sh p from es h = joined (drop from (bus_event_texts sh p es h))

unfoldable pub bus_version_line : List ℕ
bus_version_line = codes "tcc-bus-trace 1" ++ newline

-- the first lines: the version, the settings, and the number of the first event that is shown
unfoldable pub bus_head_text : Settings → (from : ℕ) → List ℕ
bus_head_text settings from = bus_version_line ++ bus_config_line settings ++ from_line from

-- the trace of the run by these events from this state on, with the last lines of any trace; `done` is whether its end is done
unfoldable pub bus_trace_text : Start → BusWorld → (from : ℕ) → List BusEvent → (done : Bool) → List ℕ
bus_trace_text s first from es done =
    bus_head_text s.settings from
    ++ bus_text_from s.settings (program s) from es (record { world = first; commits = [] })
    ++ tail_text done (length es)
