-- The messages in flight name only lines that memory has, and only TIDs that were granted.
use Rattle.std.specs.Prelude.{ℕ, ◌≡◌, Some}
use Rattle.rules_maps.specs.Messages.{InBounds}
use Rattle.rules_maps.specs.Nodes.{Node, Msg}
use Rattle.rules_maps.specs.Shape.{Shape}
use Rattle.rules_tcc.specs.State.{World}
use Rattle.rules_tcc.specs.Links.{in_flight}

abbrev pub MessagesInBounds : Shape → World → Type 0
MessagesInBounds sh w = (src dst : Node) (k : ℕ) (m : Msg) → in_flight w.net src dst k ≡ Some m → InBounds sh w.next src dst m
