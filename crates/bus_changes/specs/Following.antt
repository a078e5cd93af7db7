-- What an event of a core leaves as it was.
use Rattle.std.specs.Prelude.{ℕ, ◌≡◌, ◌<◌, ◌⊎◌, ◌==◌, ◌||◌, nat_le, Bool, true, false, None, is_some}
use Rattle.rules_maps.specs.Shape.{Shape, lines}
use Rattle.rules_maps.specs.Words.{any_word, line_of}
use Rattle.rules_bus.specs.State.{Bus, BusWorld}
use Rattle.bus_tcc.specs.Left.{packet_words}

-- a packet comes, or goes, or stays as it is: none comes in place of another
abbrev pub NoneInPlace : (before after : Bus) → Type 0
NoneInPlace b a =
    (packet_words b ≡ (λ w. None)) ⊎ ((packet_words a ≡ (λ w. None)) ⊎ (packet_words a ≡ packet_words b))

-- a line that a commit may have changed: one of the packet that it sent; a machine with one core sends none
abbrev pub may_change : Shape → Bus → (line : ℕ) → Bool
may_change sh b l = nat_le sh.cores 1 || any_word (λ w. is_some (packet_words b w)) l

-- memory is as it was, or an event committed, and but for these lines memory is as it was
abbrev pub IsMemoryKept : Shape → (w v : BusWorld) → Type 0
IsMemoryKept sh w v =
    ((v.next == w.next) ≡ true → v.ram ≡ w.ram)
    × ((x : ℕ) → line_of x < lines sh → may_change sh v.bus (line_of x) ≡ false → v.ram x ≡ w.ram x)

pub record Follows (sh : Shape) (core : ℕ) (w v : BusWorld) : Type 0 where
  pub others : (c : ℕ) → (c == core) ≡ false → v.cores c ≡ w.cores c
  pub packet : NoneInPlace w.bus v.bus
  pub memory : IsMemoryKept sh w v
