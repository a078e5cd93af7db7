-- Exec: one instruction of a core that runs or is alone, or the commit of a transaction that has ended.
use Rattle.std.specs.Prelude.{ℕ, List, Option, Some, None, is_some, if◌then◌else◌}
use Rattle.tcc_base.specs.declared.access.Size.TheVariants.{Byte, Half, Word}
use Rattle.rules_maps.specs.Cache.{Cache, free_way}
use Rattle.rules_maps.specs.CacheChange.{filled, placed, read_cleared}
use Rattle.rules_maps.specs.Shape.{Shape, set_of}
use Rattle.rules_maps.specs.Words.{put, eight, line_of, word_at}
use Rattle.rules_program.specs.Program.{Need, Loads, Stores, Changes, Ends, Halts, Traps, Program}
use Rattle.rules_program.specs.Ram.{word_of}
use Rattle.rules_tcc.specs.Attempt.{Out, finished}
use Rattle.rules_tcc.specs.CoreExec.{core_exec}
use Rattle.rules_tcc.specs.State.{CoreState, Phase, Running, AwaitTid, Overflowing, Solo}
use Rattle.rules_bus.specs.Commit.{BusStepped, bus_commit}
use Rattle.rules_bus.specs.State.{Bus, Free, Alone, Packet, BusWorld}

-- the words of a line in memory
unfoldable pub line_words : (ram : ℕ → ℕ) → (line : ℕ) → List ℕ
line_words ram l = eight (λ k. ram (word_at l k))

-- the word that an instruction reads; to store a whole word is to read none
abbrev pub word_read : (base : ℕ) → Need → Option ℕ
word_read base (Loads addr size) = Some (word_of base addr)
word_read base (Stores addr Word value) = None
word_read base (Stores addr Half value) = Some (word_of base addr)
word_read base (Stores addr Byte value) = Some (word_of base addr)
word_read base (Changes addr changed) = Some (word_of base addr)
word_read base _ = None

-- a line has a frame where it has one or a way of its set is free, and memory's words there where none are valid
abbrev pub line_filled : Shape → (ram : ℕ → ℕ) → (line : ℕ) → Cache → Cache
line_filled sh ram l c =
    if c.held l then filled l (line_words ram l) c
    else if is_some (free_way sh c (set_of sh l)) then filled l (line_words ram l) (placed sh l c)
    else c

-- so has the line of a word that is read, unless the word is spilled: also where the word itself is valid
abbrev pub with_line_of : Shape → (ram : ℕ → ℕ) → CoreState → (read : Option ℕ) → Cache
with_line_of sh ram s None = s.cache
with_line_of sh ram s (Some w) = if is_some (s.spilled w) then s.cache else line_filled sh ram (line_of w) s.cache

-- a core with the line of the word that its instruction reads
unfoldable pub line_at_hand : Shape → Program → (ram : ℕ → ℕ) → CoreState → CoreState
line_at_hand sh p ram s = record s { cache = with_line_of sh ram s (word_read sh.base (p.need s.local)) }

-- an instruction, as a core of the directory machine executes it, with that line; None: the core waits for room in its cache
unfoldable pub instruction : Shape → Program → (ram : ℕ → ℕ) → (core : ℕ) → CoreState → Option Out
instruction sh p ram c s = core_exec sh p c (line_at_hand sh p ram s)

-- only where the bus is free
abbrev pub when_free : {A : Type 0} → Bus → A → Option A
when_free Free x = Some x
when_free (Alone c) x = None
when_free (Packet words left) x = None

-- the core has the bus, and reads without marks
unfoldable pub gone_alone : (tid : ℕ) → CoreState → CoreState
gone_alone t s = record s { phase = Solo t; cache = read_cleared s.cache }

abbrev pub core_changed : BusWorld → (core : ℕ) → CoreState → BusStepped
core_changed w c s = record { world = record w { cores = put w.cores c s }; noted = None }

-- an instruction that finds its set full of marked lines takes the bus, and isn't executed yet
abbrev pub executed : BusWorld → (core : ℕ) → Out → Phase → Option BusStepped
executed w c o (Overflowing t) =
    when_free w.bus (record { world = record w { cores = put w.cores c (gone_alone w.next o.core); bus = Alone c }; noted = None })
executed w c o _ = Some (core_changed w c o.core)

abbrev pub goes_on : BusWorld → (core : ℕ) → Option Out → Option BusStepped
goes_on w c None = None
goes_on w c (Some o) = executed w c o o.core.phase

-- a core that is alone commits where its transaction ends
abbrev pub exec_alone : Shape → Program → BusWorld → (core : ℕ) → CoreState → Need → Option BusStepped
exec_alone sh p w c s Ends = Some (bus_commit sh w c (finished p Ends 0 s))
exec_alone sh p w c s (Halts code) = Some (bus_commit sh w c (finished p (Halts code) 0 s))
exec_alone sh p w c s (Traps code) = Some (bus_commit sh w c (finished p (Traps code) 0 s))
exec_alone sh p w c s _ = goes_on w c (instruction sh p w.ram c s)

-- by the core's phase
abbrev pub bus_exec_in_phase : Shape → Program → BusWorld → (core : ℕ) → CoreState → Phase → Option BusStepped
bus_exec_in_phase sh p w c s Running = goes_on w c (instruction sh p w.ram c s)
bus_exec_in_phase sh p w c s (Solo t) = exec_alone sh p w c s (p.need s.local)
bus_exec_in_phase sh p w c s AwaitTid = when_free w.bus (bus_commit sh w c s)
bus_exec_in_phase sh p w c s _ = None

unfoldable pub bus_exec : Shape → Program → BusWorld → (core : ℕ) → Option BusStepped
bus_exec sh p w c = bus_exec_in_phase sh p w c (w.cores c) (w.cores c).phase
