-- The packet on a bus, and the cores that are still to take it.
use Rattle.std.specs.Prelude.{ℕ, Bool, false, not, nat_lt, ◌==◌, ◌&&◌, Option, None, if◌then◌else◌}
use Rattle.tcc_base.specs.declared.names.CoreId.{CoreId}
use Rattle.rules_maps.specs.Words.{any_below, put}
use Rattle.rules_bus.specs.State.{Bus, Free, Alone, Packet}

abbrev pub is_left : Bus → (core : ℕ) → Bool
is_left Free c = false
is_left (Alone d) c = false
is_left (Packet f left) c = left c

abbrev pub packet_words : Bus → (word : ℕ) → Option ℕ
packet_words Free = λ w. None
packet_words (Alone d) = λ w. None
packet_words (Packet f left) = f

-- a packet that is left to no core below a number is on it no more
abbrev pub unless_empty : (f : ℕ → Option ℕ) → (cores : ℕ) → (left : ℕ → Bool) → Bus
unless_empty f n left = if any_below left n then Packet f left else Free

-- one core has taken it
abbrev pub without_core : (core cores : ℕ) → Bus → Bus
without_core c n Free = Free
without_core c n (Alone d) = Alone d
without_core c n (Packet f left) = unless_empty f n (put left c false)

-- all cores below a number but one
abbrev pub all_but : (core cores : ℕ) → (c : ℕ) → Bool
all_but c n j = nat_lt j n && not (j == c)

abbrev pub number_of : CoreId → ℕ
number_of c = c.0
