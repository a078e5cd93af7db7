-- Lines of a trace that a second implementation wrote, each with the fact that it shows; its first lines; and the last event of a schedule
-- that is worked by hand.
use Rattle.std.specs.Prelude.{◌≡◌, ℕ, List, [], ◌∷◌, ◌++◌, map, codes}
use Rattle.rules_tcc.specs.Needs.{needs, entry}
use Rattle.rules_tcc.specs.State.{Running}
use Rattle.rules_tcc.specs.Told.{machine, first_words}
use Rattle.rules_bus.specs.Cases.{alone_code, alone_events}
use Rattle.rules_bus.specs.State.{bus_start}
use Rattle.rules_bus.specs.Told.{e, x}
use Rattle.schedule_text.specs.Grammar.{newline}
use Rattle.watch.specs.Facts.{Missed, Violated}
use Rattle.bus_watch.specs.Facts.{BusFact, Common, TookPacket, HeldBy, SentLine, Nobody, OneCore, PacketOf}
use Rattle.bus_trace.specs.Lines.{bus_fact_line}
use Rattle.bus_trace.specs.Text.{bus_head_text, bus_text_from}

-- a fact, and its line without the line feed
pub record Row : Type 0 where
  pub fact : BusFact
  pub line : List ℕ

abbrev pub row : BusFact → List ℕ → Row
row f line = record { fact = f; line = line }

abbrev pub bus_rows : List Row
bus_rows =
    row (Common (Missed 1 0x80000004 0x80000040 2)) (codes " miss 1 80000004 80000040 line 2") ∷
    row (TookPacket 1) (codes " took Packet tid 1") ∷
    row (Common (Violated 1 0 1 2 1 7 Running)) (codes " violated 1 by 0 tid 1 line 2 words 1 lost 7 in Running") ∷
    row (HeldBy Nobody) (codes " bus free") ∷
    row (HeldBy (OneCore 0)) (codes " bus alone 0") ∷
    row (HeldBy (PacketOf 1)) (codes " bus packet 1") ∷
    row
    (SentLine (record { line = 2; mask = 1; words = 1 ∷ 0 ∷ 0 ∷ 0 ∷ 0 ∷ 0 ∷ 0 ∷ 0 ∷ [] }))
    (codes " sent Packet line 2 mask 1 words 00000001 - - - - - - -") ∷
    []

-- the line of each fact is the one beside it
abbrev pub AreWritten : List Row → Type 0
AreWritten rows = map (λ r. bus_fact_line r.fact) rows ≡ map (λ r. r.line ++ newline) rows

abbrev pub HeadIs : Type 0
HeadIs =
    bus_head_text (record { cores = 2; dirs = 1; sets = 16; ways = 2; base = 0x80000000; ram = 65536 }) 0
    ≡ codes "tcc-bus-trace 1\ncores 2 sets 16 ways 2 base 2147483648 ram 65536\nfrom 0\n"

-- a core that is alone commits, and sends two lines
abbrev pub last_of_alone : List ℕ
last_of_alone =
    codes "e 0\n did 0 00000003 end\n commit 1 0 4\n phase 0 Running\n bus packet 1\n"
    ++ codes " sent Packet line 0 mask 1 words 00000005 - - - - - - -\n sent Packet line 1 mask 1 words 00000006 - - - - - - -\n"

abbrev pub LastOfAlone : Type 0
LastOfAlone =
    bus_text_from (machine 2 1 1 1 256) (needs alone_code) 7 (alone_events ++ x 0 0 0 ∷ e 0 ∷ e 0 ∷ e 0 ∷ [])
    (record { world = bus_start entry first_words; commits = [] })
    ≡ last_of_alone
