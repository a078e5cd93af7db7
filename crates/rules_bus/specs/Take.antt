-- Take: a core takes the packet of another core's commit. Where it had read a word of it, its attempt begins anew.
use Rattle.std.specs.Prelude.{ℕ, Bool, false, not, Option, Some, None, is_some, ◌&&◌, if◌then◌else◌}
use Rattle.rules_maps.specs.Cache.{Cache}
use Rattle.rules_maps.specs.Shape.{Shape, lines}
use Rattle.rules_maps.specs.Words.{put, any_below, any_word}
use Rattle.rules_tcc.specs.Attempt.{roll_back}
use Rattle.rules_tcc.specs.State.{CoreState, Running}
use Rattle.rules_bus.specs.Commit.{BusStepped}
use Rattle.rules_bus.specs.State.{Bus, Free, Alone, Packet, BusWorld}

-- a word of the packet is marked read
unfoldable pub reads_some : Shape → (words : ℕ → Option ℕ) → Cache → Bool
reads_some sh f c = any_below (any_word (λ w. is_some (f w) && c.read w)) (lines sh)

-- the packet's words that aren't modified become invalid
unfoldable pub packet_invalidated : (words : ℕ → Option ℕ) → CoreState → CoreState
packet_invalidated f s = record s {
  cache = record s.cache { value = λ w. if is_some (f w) && not (s.cache.modified w) then None else s.cache.value w };
}

unfoldable pub packet_taken : Shape → (words : ℕ → Option ℕ) → CoreState → CoreState
packet_taken sh f s = packet_invalidated f (if reads_some sh f s.cache then record (roll_back s) { phase = Running } else s)

-- the bus is free once all have taken it
abbrev pub bus_left : Shape → (words : ℕ → Option ℕ) → (left : ℕ → Bool) → Bus
bus_left sh f left = if any_below left sh.cores then Packet f left else Free

abbrev pub take_from : Shape → BusWorld → (core : ℕ) → Bus → Option BusStepped
take_from sh w c Free = None
take_from sh w c (Alone d) = None
take_from sh w c (Packet f left) =
    if left c
    then Some (record {
      world = record w { cores = put w.cores c (packet_taken sh f (w.cores c)); bus = bus_left sh f (put left c false) };
      noted = None;
    })
    else None

unfoldable pub bus_take : Shape → BusWorld → (core : ℕ) → Option BusStepped
bus_take sh w c = take_from sh w c w.bus
