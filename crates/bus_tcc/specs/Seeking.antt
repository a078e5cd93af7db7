-- One of a number's set bits, as it is sought.
use Rattle.std.specs.Prelude.{ℕ, ◌≡◌, ◌+◌, ◌<◌, ◌/◌, ◌%◌, ◌^◌, count_ones}
use Rattle.bus_tcc.specs.declared.seeking.Among.{Among}

-- these are so many bits of the number, from their place on, and the k-th that is set is among them
pub record IsAmong (m k width : ℕ) (a : Among) : Type 0 where
  pub bits : a.bits ≡ m / 2 ^ a.at % 2 ^ width
  pub before : k ≡ count_ones (m % 2 ^ a.at) + a.left
  pub within : a.left < count_ones a.bits
