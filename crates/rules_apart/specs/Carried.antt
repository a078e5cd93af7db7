-- What a link carries.
use Rattle.std.specs.Prelude.{◌^◌}
use Rattle.rules_maps.specs.Nodes.{Node, Msg}
use Rattle.rules_maps.specs.Shape.{Shape}
use Rattle.rules_maps.specs.Messages.{InBounds}

-- A message that its source says to its destination, where the machine has both; a line that it names is one of memory, at home at the
-- link's directory, and a TID of which it speaks is one that can be given: from 1 on, below 2^62.
abbrev pub IsCarried : Shape → (src dst : Node) → Msg → Type 0
IsCarried sh src dst m = InBounds sh (2 ^ 62) src dst m
