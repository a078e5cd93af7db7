-- The peers of a node, and the order of its ports.
use Rattle.std.specs.Prelude.{ℕ, ◌+◌, Option, Some, None, nat_lt, if◌then◌else◌}
use Rattle.tcc_base.specs.Settings.{Settings}
use Rattle.rules_maps.specs.Nodes.{Node, Core, Dir, Vendor}

abbrev pub if_below : (n i : ℕ) → Option ℕ
if_below n i = if nat_lt i n then Some i else None

-- the place of a peer's port: a core has one for each directory and one for the vendor, a directory and the vendor one for each core
unfoldable pub seat : Settings → (own peer : Node) → Option ℕ
seat s (Core c) (Dir d) = if_below s.dirs d
seat s (Core c) Vendor = Some s.dirs
seat s (Dir d) (Core c) = if_below s.cores c
seat s Vendor (Core c) = if_below s.cores c
seat s _ _ = None

abbrev pub peer_count : Settings → (own : Node) → ℕ
peer_count s (Core c) = s.dirs + 1
peer_count s (Dir d) = s.cores
peer_count s Vendor = s.cores
