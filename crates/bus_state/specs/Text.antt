-- The text of a state: its records, and the events that are enabled.
use Rattle.std.specs.Prelude.{ℕ, Bool, List, [], ◌++◌, codes, is_some, map, if◌then◌else◌}
use Rattle.std.specs.List.{flat_map}
use Rattle.image_load.specs.Start.{Start, first_ram}
use Rattle.rv_code.specs.Machine.{program}
use Rattle.rules_program.specs.Program.{Program}
use Rattle.rules_maps.specs.Shape.{Shape}
use Rattle.rules_tcc.specs.Seen.{numbers}
use Rattle.rules_bus.specs.State.{BusEvent, BusWorld, Evict}
use Rattle.rules_bus.specs.Step.{BusHistory, bus_step}
use Rattle.rules_bus.specs.Useful.{bus_evicts, bus_execs, bus_is_useful, bus_takes}
use Rattle.schedule_text.specs.Grammar.{newline}
use Rattle.report_text.specs.Lines.{end_line, events_line}
use Rattle.bus_trace.specs.Lines.{bus_config_line, bus_event_line}
use Rattle.watch_state.specs.Lines.{record_lines}
use Rattle.bus_state.specs.Lines.{bus_record_lines}
use Rattle.bus_state.specs.Parts.{bus_records, cores_records}

-- an event that is enabled, with whether it is useful
unfoldable pub enabled_text : Shape → Program → BusWorld → BusEvent → List ℕ
enabled_text sh p w e =
    if is_some (bus_step sh p w e)
    then (if bus_is_useful sh p w e then codes "useful " else codes "useless ") ++ bus_event_line e
    else []

-- those of these events that are enabled
unfoldable pub enabled_lines : Shape → Program → BusWorld → List BusEvent → List ℕ
enabled_lines sh p w es = flat_map (enabled_text sh p w) es

-- the evictions of the ways of a set, and of a core
unfoldable pub set_evicts : Shape → (core set : ℕ) → List BusEvent
set_evicts sh c x = map (λ y. Evict c x y) (numbers sh.ways)

unfoldable pub core_evicts : Shape → (core : ℕ) → List BusEvent
core_evicts sh c = flat_map (set_evicts sh c) (numbers sh.sets)

-- whether the run is done and how many events it took, as is told here; of the events all that are enabled, in the order of useful events:
-- Exec by core, Evict by core, set and way, Take by core
unfoldable pub bus_state_text : Start → (done : Bool) → (events : ℕ) → BusHistory → List ℕ
bus_state_text s done events h =
    codes "tcc-bus-state 1" ++ newline ++ bus_config_line s.settings
    ++ record_lines (cores_records s.settings h.world) ++ bus_record_lines (bus_records s.settings (first_ram s) h.world)
    ++ enabled_lines s.settings (program s) h.world (bus_execs s.settings ++ (bus_evicts s.settings ++ bus_takes s.settings))
    ++ end_line done ++ events_line events
