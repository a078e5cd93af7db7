-- What holds of changes.
use Rattle.std.specs.Prelude.{ℕ, ◌≡◌, Bool, List, Option, Some, option_map}
use Rattle.image_load.specs.Start.{Start}
use Rattle.rv_code.specs.Machine.{program}
use Rattle.tcc_base.specs.Settings.{IsAllowed}
use Rattle.rules_maps.specs.Shape.{Shape}
use Rattle.rules_tcc.specs.State.{CoreState}
use Rattle.rules_bus.specs.State.{Bus, BusEvent, BusWorld}
use Rattle.rules_bus.specs.Step.{BusHistory, bus_next, bus_run}
use Rattle.theorem_bus.specs.Given.{bus_at_start}
use Rattle.watch_changes.specs.Changes.{changes, put_on}
use Rattle.bus_watch.specs.Happened.{core_of}
use Rattle.bus_trace.specs.Text.{bus_trace_text}
use Rattle.bus_state.specs.Parts.{bus_core_records}
use Rattle.bus_state.specs.Records.{PacketHas}
use Rattle.bus_changes.specs.Changes.{arbiter_changes, arbiter_record, line_changes, line_in, put_on_part, value_changes, value_record}
use Rattle.bus_changes.specs.Following.{Follows}
use Rattle.bus_changes.specs.Text.{bus_facts_alone, bus_shown_text}

-- the records that a core had, with the changes put on them, are those that it has
abbrev pub CoresLeadOn : Type 0
CoresLeadOn =
    (sh : Shape) (c : ℕ) (s t : CoreState)
    → put_on (bus_core_records sh c s) (changes (bus_core_records sh c s) (bus_core_records sh c t)) ≡ bus_core_records sh c t

-- so it is of each part of the bus and of memory
pub record PartsLeadOn : Type 0 where
  pub arbiter : (n t u : ℕ) (b a : Bus)
      → put_on_part (Some (arbiter_record n t b)) (arbiter_changes n t b u a) ≡ Some (arbiter_record n u a)
  pub packet : (f g : ℕ → Option ℕ) (l : ℕ)
      → put_on_part (option_map PacketHas (line_in f l)) (line_changes (line_in f l) (line_in g l)) ≡ option_map PacketHas (line_in g l)
  pub memory : (addr was is first : ℕ)
      → put_on_part (value_record addr was first) (value_changes addr was is first) ≡ value_record addr is first

-- an event of a run leaves all cores as they are but the one that it names, puts no packet in the place of another, and changes memory only
-- where it commits, in the lines of the packet that it sends
abbrev pub EventsFollow : Type 0
EventsFollow =
    (s : Start) (es : List BusEvent) (h k : BusHistory) (e : BusEvent) → IsAllowed s.settings
    → bus_run s.settings (program s) (bus_at_start s).world es ≡ Some h → bus_next s.settings (program s) h e ≡ Some k
    → Follows s.settings (core_of e) h.world k.world

-- with the facts alone it is the trace without records
abbrev pub BusWithoutRecords : Type 0
BusWithoutRecords =
    (s : Start) (first : BusWorld) (from : ℕ) (es : List BusEvent) (done : Bool)
    → bus_shown_text bus_facts_alone s first from es done ≡ bus_trace_text s first from es done
