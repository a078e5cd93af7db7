-- The facts of each event of two schedules that are worked by hand in rules_bus: a core that had read a word of a packet begins anew, and
-- a core whose set is full takes the bus.
use Rattle.std.specs.Prelude.{ℕ, ◌≡◌, List, [], ◌∷◌, ◌++◌, Option, Some, None}
use Rattle.tcc_base.specs.declared.access.Size.TheVariants.{Word}
use Rattle.rules_program.specs.Program.{Program}
use Rattle.rules_maps.specs.Shape.{Shape}
use Rattle.rules_tcc.specs.Needs.{Codes, needs, entry}
use Rattle.rules_tcc.specs.State.{Running, AwaitTid, Solo}
use Rattle.rules_tcc.specs.Told.{machine, first_words}
use Rattle.rules_bus.specs.Cases.{reader_code, reader_events, alone_code, alone_events}
use Rattle.rules_bus.specs.State.{BusEvent, bus_start}
use Rattle.rules_bus.specs.Step.{BusHistory, bus_next}
use Rattle.rules_bus.specs.Told.{e, x}
use Rattle.bus_tcc.specs.Packets.{PacketLine}
use Rattle.watch.specs.Facts.{Fact, Did, Missed, Overflowed, Evicted, Violated, Committed, CameTo, Loaded, Stored, Ended}
use Rattle.bus_watch.specs.Facts.{BusFact, Common, TookPacket, HeldBy, SentLine, Nobody, OneCore, PacketOf}
use Rattle.bus_watch.specs.Happened.{bus_happened}

-- the facts of these events one after another, up to the first that isn't enabled
abbrev pub or_end : (BusHistory → List (List BusFact)) → Option BusHistory → List (List BusFact)
or_end f None = []
or_end f (Some h) = f h

unfoldable pub bus_facts_from : Shape → Program → List BusEvent → BusHistory → List (List BusFact)
bus_facts_from sh p [] h = []
bus_facts_from sh p (e ∷ es) h = bus_happened sh p h e ∷ or_end (bus_facts_from sh p es) (bus_next sh p h e)

unfoldable pub bus_facts_of_codes : Shape → Codes → List BusEvent → List (List BusFact)
bus_facts_of_codes sh codes es =
    bus_facts_from sh (needs codes) es (record { world = bus_start entry first_words; commits = [] })

abbrev pub line_sent : (line mask : ℕ) → List ℕ → BusFact
line_sent l m ws = SentLine (record { line = l; mask = m; words = ws })

abbrev pub reader_facts : List (List BusFact)
reader_facts =
    (Common (Missed 0 0 4096 0) ∷ Common (Did 0 0 (Loaded 4096 Word 100)) ∷ []) ∷  -- e 0
    (Common (Did 1 16 (Stored 4096 Word 9)) ∷ []) ∷  -- e 1
    (Common (Did 1 17 Ended) ∷ Common (CameTo 1 AwaitTid) ∷ []) ∷  -- e 1
    (Common (Committed 1 1 2) ∷
    Common (CameTo 1 Running) ∷
    HeldBy (PacketOf 1) ∷
    line_sent 0 1 (9 ∷ 0 ∷ 0 ∷ 0 ∷ 0 ∷ 0 ∷ 0 ∷ 0 ∷ []) ∷ []) ∷  -- e 1
    (TookPacket 1 ∷ Common (Violated 0 1 1 0 1 1 Running) ∷ HeldBy Nobody ∷ []) ∷  -- t 0
    (Common (Missed 0 0 4096 0) ∷ Common (Did 0 0 (Loaded 4096 Word 9)) ∷ []) ∷  -- e 0
    (Common (Did 0 1 (Stored 4100 Word 5)) ∷ []) ∷  -- e 0
    (Common (Did 0 2 Ended) ∷ Common (CameTo 0 AwaitTid) ∷ []) ∷  -- e 0
    (Common (Committed 2 0 3) ∷
    Common (CameTo 0 Running) ∷
    HeldBy (PacketOf 2) ∷
    line_sent 0 2 (0 ∷ 5 ∷ 0 ∷ 0 ∷ 0 ∷ 0 ∷ 0 ∷ 0 ∷ []) ∷ []) ∷  -- e 0
    []

abbrev pub ReaderFacts : Type 0
ReaderFacts =
    bus_facts_of_codes (machine 2 1 1 2 256) reader_code (reader_events ++ e 0 ∷ e 0 ∷ e 0 ∷ e 0 ∷ []) ≡ reader_facts

abbrev pub alone_facts : List (List BusFact)
alone_facts =
    (Common (Did 0 0 (Stored 4096 Word 5)) ∷ []) ∷  -- e 0
    (Common (Overflowed 0 1 4128 1) ∷ Common (CameTo 0 (Solo 1)) ∷ HeldBy (OneCore 0) ∷ []) ∷  -- e 0
    (Common (Did 1 16 (Stored 4160 Word 7)) ∷ []) ∷  -- e 1
    (Common (Did 1 17 Ended) ∷ Common (CameTo 1 AwaitTid) ∷ []) ∷  -- e 1
    (Common (Evicted 0 0 0 1) ∷ []) ∷  -- x 0 0 0
    (Common (Did 0 1 (Stored 4128 Word 6)) ∷ []) ∷  -- e 0
    (Common (Did 0 2 (Loaded 4096 Word 5)) ∷ []) ∷  -- e 0
    (Common (Did 0 3 Ended) ∷
    Common (Committed 1 0 4) ∷
    Common (CameTo 0 Running) ∷
    HeldBy (PacketOf 1) ∷
    line_sent 0 1 (5 ∷ 0 ∷ 0 ∷ 0 ∷ 0 ∷ 0 ∷ 0 ∷ 0 ∷ []) ∷
    line_sent 1 1 (6 ∷ 0 ∷ 0 ∷ 0 ∷ 0 ∷ 0 ∷ 0 ∷ 0 ∷ []) ∷ []) ∷  -- e 0
    []

abbrev pub AloneFacts : Type 0
AloneFacts =
    bus_facts_of_codes (machine 2 1 1 1 256) alone_code (alone_events ++ x 0 0 0 ∷ e 0 ∷ e 0 ∷ e 0 ∷ []) ≡ alone_facts
