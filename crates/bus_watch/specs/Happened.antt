-- What an event did on the machine with one bus: the facts by the rules' states and commits before and after it.
use Rattle.std.specs.Prelude.{ℕ, ◌-◌, Bool, true, false, not, ◌||◌, ◌==◌, List, [], ◌∷◌, ◌++◌, map, Option, Some, None, is_some}
use Rattle.std.specs.Prelude.{if◌then◌else◌}
use Rattle.tcc_base.specs.declared.access.Commit.{Commit as Noted}
use Rattle.rules_program.specs.Program.{Need, Program}
use Rattle.rules_maps.specs.Shape.{Shape}
use Rattle.rules_tcc.specs.State.{CoreState, Phase, Running, AwaitTid, Solo}
use Rattle.rules_bus.specs.Commit.{BusStepped}
use Rattle.rules_bus.specs.Exec.{word_read}
use Rattle.rules_bus.specs.State.{Bus, Free, Alone, Packet, BusWorld, BusEvent, Exec, Evict, Take}
use Rattle.rules_bus.specs.Step.{BusHistory, bus_step}
use Rattle.bus_tcc.specs.Left.{packet_words}
use Rattle.bus_tcc.specs.Packets.{PacketLine, packet_lines}
use Rattle.watch.specs.Facts.{Did, Missed, Overflowed, Violated}
use Rattle.watch.specs.Happened.{commit_fact, phase_fact}
use Rattle.watch.specs.Instructions.{addr_of, done, evicted, line_at}
use Rattle.watch.specs.Messages.{commit_of, committer, words_read}
use Rattle.bus_watch.specs.Facts.{BusFact, Common, TookPacket, HeldBy, SentLine, Holder, Nobody, OneCore, PacketOf}

-- ---- an execution, s being the core before it, and t behind it

-- a word that is read comes from memory where it is neither spilled nor valid in a frame
unfoldable pub comes_from_memory : CoreState → (read : Option ℕ) → Bool
comes_from_memory s None = false
comes_from_memory s (Some w) = not (is_some (s.spilled w) || is_some (s.cache.value w))

abbrev pub missed : Shape → (core : ℕ) → CoreState → Need → List BusFact
missed sh c s need =
    if comes_from_memory s (word_read sh.base need)
    then Common (Missed c s.local.pc (addr_of need) (line_at sh (addr_of need))) ∷ []
    else []

-- the instruction is finished, with a word from memory or without one
abbrev pub finished : Shape → Program → (core : ℕ) → (s t : CoreState) → List BusFact
finished sh p c s t =
    missed sh c s (p.need s.local) ++ Common (Did c s.local.pc (done (p.need s.local) t)) ∷ []

-- it isn't finished: the core that ran is alone now
abbrev pub overflowed : Shape → (core : ℕ) → CoreState → Need → List BusFact
overflowed sh c s need = Common (Overflowed c s.local.pc (addr_of need) (line_at sh (addr_of need))) ∷ []

unfoldable pub has_gone_alone : (before after : Phase) → Bool
has_gone_alone Running (Solo t) = true
has_gone_alone _ _ = false

-- a core that waits for the bus commits, and executes nothing
unfoldable pub waits_for_bus : Phase → Bool
waits_for_bus AwaitTid = true
waits_for_bus _ = false

unfoldable pub executed : Shape → Program → (core : ℕ) → (s t : CoreState) → List BusFact
executed sh p c s t =
    if waits_for_bus s.phase then []
    else if has_gone_alone s.phase t.phase then overflowed sh c s (p.need s.local)
    else finished sh p c s t

-- ---- a packet that is taken

-- the TID of the last commit
abbrev pub last_tid : BusWorld → ℕ
last_tid w = w.next - 1

-- the first of these lines of which the core has read a word, with the words that it has read
unfoldable pub first_read : List PacketLine → CoreState → Option (ℕ × ℕ)
first_read [] s = None
first_read (d ∷ ds) s =
    if words_read d.line d.mask s == 0 then first_read ds s else Some (d.line, words_read d.line d.mask s)

abbrev pub violated : (core : ℕ) → List Noted → (tid : ℕ) → CoreState → Option (ℕ × ℕ) → List BusFact
violated c commits t s None = []
violated c commits t s (Some h) = Common (Violated c (committer (commit_of t commits)) t h.0 h.1 s.n s.phase) ∷ []

-- the lines of the packet that is on the bus
abbrev pub lines_out : Shape → Bus → List PacketLine
lines_out sh b = packet_lines sh (packet_words b)

unfoldable pub taken : Shape → List Noted → BusWorld → (core : ℕ) → List BusFact
taken sh commits w c =
    TookPacket (last_tid w) ∷ violated c commits (last_tid w) (w.cores c) (first_read (lines_out sh w.bus) (w.cores c))

-- ---- all events

abbrev pub held_by : (next : ℕ) → Bus → Holder
held_by t Free = Nobody
held_by t (Alone c) = OneCore c
held_by t (Packet f left) = PacketOf (t - 1)

abbrev pub holder : BusWorld → Holder
holder w = held_by w.next w.bus

abbrev pub same_holder : Holder → Holder → Bool
same_holder Nobody Nobody = true
same_holder (OneCore c) (OneCore d) = c == d
same_holder (PacketOf t) (PacketOf u) = t == u
same_holder _ _ = false

abbrev pub holder_fact : (before after : Holder) → List BusFact
holder_fact a b = if same_holder a b then [] else HeldBy b ∷ []

-- a commit sends what it wrote
abbrev pub sent : Shape → Option Noted → Bus → List BusFact
sent sh None b = []
sent sh (Some c) b = map SentLine (lines_out sh b)

abbrev pub core_of : BusEvent → ℕ
core_of (Exec c) = c
core_of (Evict c x y) = c
core_of (Take c) = c

-- the event itself, w being the state before it, and v behind it
abbrev pub acted : Shape → Program → List Noted → (w v : BusWorld) → BusEvent → List BusFact
acted sh p commits w v (Exec c) = executed sh p c (w.cores c) (v.cores c)
acted sh p commits w v (Evict c x y) = map Common (evicted c x y (w.cores c))
acted sh p commits w v (Take c) = taken sh commits w c

-- the facts of an event that led to this
abbrev pub facts_of : Shape → Program → BusHistory → BusEvent → Option BusStepped → List BusFact
facts_of sh p h e None = []
facts_of sh p h e (Some o) =
    acted sh p h.commits h.world o.world e
    ++ (map Common (commit_fact o.noted)
    ++ (map Common (phase_fact (core_of e) (h.world.cores (core_of e)).phase (o.world.cores (core_of e)).phase)
    ++ (holder_fact (holder h.world) (holder o.world) ++ sent sh o.noted o.world.bus)))

-- all that an event does that is enabled here
unfoldable pub bus_happened : Shape → Program → BusHistory → BusEvent → List BusFact
bus_happened sh p h e = facts_of sh p h e (bus_step sh p h.world e)
