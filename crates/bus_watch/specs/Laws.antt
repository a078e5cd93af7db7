-- A core that takes a packet is told to be violated exactly where the rules have its attempt begin anew.
use Rattle.std.specs.Prelude.{ℕ, ◌≡◌, Option, is_some}
use Rattle.rules_maps.specs.Shape.{Shape}
use Rattle.rules_tcc.specs.State.{CoreState}
use Rattle.rules_bus.specs.Take.{reads_some}
use Rattle.bus_tcc.specs.Packets.{packet_lines}
use Rattle.bus_watch.specs.Happened.{first_read}

abbrev pub ViolationsAreRollBacks : Type 0
ViolationsAreRollBacks =
    (sh : Shape) (words : ℕ → Option ℕ) (s : CoreState) → is_some (first_read (packet_lines sh words) s) ≡ reads_some sh words s.cache
