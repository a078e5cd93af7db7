-- What holds of changes.
use Rattle.std.specs.Prelude.{ℕ, ◌≡◌, Bool, List, [], ◌++◌, Some}
use Rattle.std.specs.List.{flat_map}
use Rattle.image_load.specs.Start.{Start, first_ram}
use Rattle.rules_program.specs.Program.{Program}
use Rattle.rules_maps.specs.Nodes.{Node, Event}
use Rattle.rules_maps.specs.Shape.{Shape}
use Rattle.rules_tcc.specs.State.{World}
use Rattle.rules_tcc.specs.Step.{History, next_history}
use Rattle.rules_tcc.specs.Useful.{nodes}
use Rattle.watch.specs.Happened.{actor}
use Rattle.watch_state.specs.Text.{records_from, state_records}
use Rattle.watch_trace.specs.Text.{trace_text}
use Rattle.watch_changes.specs.Changes.{AreChangesOrdered, AreNew, change_lines, changes, put_on}
use Rattle.watch_changes.specs.Nodes.{AreAlikeBut, records_at}
use Rattle.watch_changes.specs.Text.{facts_alone, shown_text}
use Rattle.watch_changes.specs.Touched.{part_records, touched}

-- the records that a node had, with the changes put on them, are those that it has
abbrev pub ChangesLeadOn : Type 0
ChangesLeadOn =
    (sh : Shape) (first : ℕ → ℕ) (w v : World) (n : Node)
    → put_on (records_at sh first w n) (changes (records_at sh first w n) (records_at sh first v n)) ≡ records_at sh first v n

-- no record is told twice
abbrev pub NoneTwice : Type 0
NoneTwice =
    (sh : Shape) (first : ℕ → ℕ) (w v : World) (n : Node)
    → AreChangesOrdered (changes (records_at sh first w n) (records_at sh first v n))

-- and none that is as it was
abbrev pub NoneAsItWas : Type 0
NoneAsItWas =
    (sh : Shape) (first : ℕ → ℕ) (w v : World) (n : Node)
    → AreNew (records_at sh first w n) (changes (records_at sh first w n) (records_at sh first v n))

-- an event leaves the records of all nodes as they are but those of the node that acts
abbrev pub OthersStay : Type 0
OthersStay =
    (sh : Shape) (p : Program) (first : ℕ → ℕ) (h k : History) (e : Event) → next_history sh p h e ≡ Some k
    → AreAlikeBut sh first (actor e) h.world k.world

-- and what changed of this node is what changed of the part that the event touches
abbrev pub TouchedSuffices : Type 0
TouchedSuffices =
    (sh : Shape) (p : Program) (first : ℕ → ℕ) (h k : History) (e : Event) → next_history sh p h e ≡ Some k
    → changes (records_at sh first h.world (actor e)) (records_at sh first k.world (actor e))
    ≡ changes (part_records sh first h.world (touched sh p h.world e)) (part_records sh first k.world (touched sh p h.world e))

-- with the facts alone it is the trace without records
abbrev pub WithoutRecords : Type 0
WithoutRecords =
    (s : Start) (first : World) (from : ℕ) (es : List Event) (done : Bool)
    → shown_text facts_alone s first from es done ≡ trace_text s first from es done

-- where a window begins all records are told, node by node, and then the messages in flight
abbrev pub BeginsByNode : Type 0
BeginsByNode =
    (s : Start) (w : World)
    → change_lines (changes [] (state_records s w))
    ≡ flat_map (λ n. change_lines (changes [] (records_at s.settings (first_ram s) w n))) (nodes s.settings)
    ++ flat_map (λ n. change_lines (changes [] (records_from s.settings w n))) (nodes s.settings)
