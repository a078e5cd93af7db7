-- The nodes of a machine in their order.
use Rattle.std.specs.Prelude.{ℕ, ◌+◌, ◌-◌, nat_lt, if◌then◌else◌}
use Rattle.tcc_base.specs.Settings.{Settings}
use Rattle.rules_maps.specs.Nodes.{Node, Core, Dir, Vendor}

-- the node at a place: cores by number, directories by number, the vendor
abbrev pub nth_node : Settings → (place : ℕ) → Node
nth_node s i = if nat_lt i s.cores then Core i else if nat_lt i (s.cores + s.dirs) then Dir (i - s.cores) else Vendor
