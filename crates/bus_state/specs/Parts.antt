-- The records of a state, in their order. What is as in an untouched machine has none, but for each core itself, its checkpoint's pc, and
-- the arbiter.
use Rattle.std.specs.Prelude.{ℕ, List, [], ◌∷◌, ◌++◌, ◌==◌, map, if◌then◌else◌}
use Rattle.std.specs.List.{flat_map}
use Rattle.rules_maps.specs.Shape.{Shape, lines}
use Rattle.rules_maps.specs.Words.{those, word_at}
use Rattle.rules_tcc.specs.Seen.{numbers}
use Rattle.rules_tcc.specs.State.{CoreState}
use Rattle.rules_bus.specs.State.{Bus, Free, Alone, Packet, BusWorld}
use Rattle.bus_tcc.specs.Left.{packet_words}
use Rattle.bus_tcc.specs.Packets.{packet_lines}
use Rattle.watch_state.specs.Cores.{addr_of, cached_records, register_records}
use Rattle.watch_state.specs.Progress.{progress_records}
use Rattle.watch_state.specs.Records.{Record}
use Rattle.bus_state.specs.Records.{BusRecord, ArbiterIs, PacketHas, MemoryWord, Holding, Nobody, OneCore, LeftTo}

-- ---- the cores

-- a core's records but for those of directories
unfoldable pub bus_core_records : Shape → (core : ℕ) → CoreState → List Record
bus_core_records sh c s = progress_records c s ++ (register_records c s ++ cached_records sh c s)

unfoldable pub cores_records : Shape → BusWorld → List Record
cores_records sh w = flat_map (λ c. bus_core_records sh c (w.cores c)) (numbers sh.cores)

-- ---- the bus

-- who has it, of so many cores
abbrev pub holding : (cores : ℕ) → Bus → Holding
holding n Free = Nobody
holding n (Alone c) = OneCore c
holding n (Packet words left) = LeftTo (those left n)

-- the lines of the packet that is on it
unfoldable pub packet_records : Shape → Bus → List BusRecord
packet_records sh b = map PacketHas (packet_lines sh (packet_words b))

-- ---- memory

-- a word that isn't as it was loaded
unfoldable pub memory_record : Shape → (first ram : ℕ → ℕ) → (word : ℕ) → List BusRecord
memory_record sh first ram w = if ram w == first w then [] else MemoryWord (addr_of sh w) (ram w) ∷ []

unfoldable pub memory_records : Shape → (first ram : ℕ → ℕ) → (line : ℕ) → List BusRecord
memory_records sh first ram l = flat_map (λ k. memory_record sh first ram (word_at l k)) (numbers 8)

-- ---- both; `first` are the loaded words

unfoldable pub bus_records : Shape → (first : ℕ → ℕ) → BusWorld → List BusRecord
bus_records sh first w =
    ArbiterIs w.next (holding sh.cores w.bus) ∷ packet_records sh w.bus
    ++ flat_map (memory_records sh first w.ram) (numbers (lines sh))
