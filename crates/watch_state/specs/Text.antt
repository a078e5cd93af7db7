-- The text of a state: its records, and the events that are enabled.
use Rattle.std.specs.Prelude.{ℕ, Bool, List, [], ◌∷◌, ◌++◌, Option, Some, None, length, codes, if◌then◌else◌}
use Rattle.std.specs.List.{flat_map}
use Rattle.image_load.specs.Start.{Start, first_ram}
use Rattle.rv_code.specs.Machine.{program}
use Rattle.rules_program.specs.Program.{Program}
use Rattle.rules_maps.specs.Nodes.{Node, Event, Msg}
use Rattle.rules_maps.specs.Shape.{Shape}
use Rattle.rules_tcc.specs.Links.{in_flight}
use Rattle.rules_tcc.specs.Seen.{numbers}
use Rattle.rules_tcc.specs.State.{World}
use Rattle.rules_tcc.specs.Step.{History, is_enabled}
use Rattle.rules_tcc.specs.Useful.{nodes, execs, evicts, delivers, is_useful}
use Rattle.schedule_text.specs.Grammar.{newline, config_line, event_line}
use Rattle.report_text.specs.Lines.{end_line, events_line}
use Rattle.watch_trace.specs.Shown.{shown_event_of}
use Rattle.watch_state.specs.Cores.{core_records}
use Rattle.watch_state.specs.Directories.{directory_records}
use Rattle.watch_state.specs.Lines.{record_lines}
use Rattle.watch_state.specs.Records.{Record, VendorIs, InFlight}

-- ---- messages in flight

abbrev pub flight_record : (src dst : Node) → (seq : ℕ) → Option Msg → List Record
flight_record src dst k None = []
flight_record src dst k (Some m) = InFlight src dst k m ∷ []

unfoldable pub link_records : World → (src dst : Node) → List Record
link_records w src dst = flat_map (λ k. flight_record src dst k (in_flight w.net src dst k)) (numbers (length (w.net src dst)))

unfoldable pub records_from : Shape → World → (src : Node) → List Record
records_from sh w src = flat_map (link_records w src) (nodes sh)

-- ---- all records, node by node, and then the messages by source, destination and number

unfoldable pub node_records : Shape → (first : ℕ → ℕ) → World → List Record
node_records sh first w =
    flat_map (λ c. core_records sh c (w.cores c)) (numbers sh.cores)
    ++ (flat_map (λ d. directory_records sh first d (w.dirs d)) (numbers sh.dirs) ++ VendorIs w.next ∷ [])

unfoldable pub state_records : Start → World → List Record
state_records s w = node_records s.settings (first_ram s) w ++ flat_map (records_from s.settings w) (nodes s.settings)

-- ---- events

-- an event that is enabled, with whether it is useful
unfoldable pub event_text : Shape → Program → World → Event → List ℕ
event_text sh p w e =
    if is_enabled sh p w e
    then (if is_useful sh p w e then codes "useful " else codes "useless ") ++ event_line (shown_event_of e)
    else []

-- those of these events that are enabled
unfoldable pub events_text : Shape → Program → World → List Event → List ℕ
events_text sh p w es = flat_map (event_text sh p w) es

-- whether the run is done and how many events it took, as is told here; of the events all that are enabled, in the order of useful events:
-- Exec by core, Evict by core, set and way, Deliver by source, destination and number
unfoldable pub state_text : Start → (done : Bool) → (events : ℕ) → History → List ℕ
state_text s done events h =
    codes "tcc-state 1" ++ newline ++ config_line s.settings ++ record_lines (state_records s h.world)
    ++ events_text s.settings (program s) h.world (execs s.settings ++ (evicts s.settings ++ delivers s.settings h.world))
    ++ end_line done ++ events_line events
