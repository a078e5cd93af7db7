-- The nodes of a machine in their order, the links between them, and the place of each pair of nodes.
use Rattle.std.specs.Prelude.{ℕ, ◌+◌, ◌-◌, ◌*◌, ◌/◌, ◌%◌, Bool, false, nat_lt, ◌&&◌, Option, Some, None, if◌then◌else◌}
use Rattle.rules_maps.specs.Nodes.{Node, Core, Dir, Vendor}

-- there is such a link: one of the two is a core, and the other a directory or the vendor
abbrev pub is_link : (cores dirs : ℕ) → Node → Node → Bool
is_link cs ds (Core c) (Dir d) = nat_lt c cs && nat_lt d ds
is_link cs ds (Core c) Vendor = nat_lt c cs
is_link cs ds (Dir d) (Core c) = nat_lt d ds && nat_lt c cs
is_link cs ds Vendor (Core c) = nat_lt c cs
is_link cs ds _ _ = false

-- how many nodes there are
abbrev pub node_count : (cores dirs : ℕ) → ℕ
node_count cs ds = cs + ds + 1

-- a node's number in the order of nodes, and the node of that number
abbrev pub rank : (cores dirs : ℕ) → Node → ℕ
rank cs ds (Core c) = c
rank cs ds (Dir d) = cs + d
rank cs ds Vendor = cs + ds

abbrev pub node_at : (cores dirs : ℕ) → ℕ → Node
node_at cs ds n = if nat_lt n cs then Core n else (if nat_lt n (cs + ds) then Dir (n - cs) else Vendor)

-- a link's place among all pairs of nodes, by source and then destination
unfoldable pub place : (cores dirs : ℕ) → Node → Node → Option ℕ
place cs ds src dst = if is_link cs ds src dst then Some (rank cs ds src * node_count cs ds + rank cs ds dst) else None

-- the source and the destination of the pair at that place
abbrev pub src_at : (cores dirs : ℕ) → ℕ → Node
src_at cs ds i = node_at cs ds (i / node_count cs ds)

abbrev pub dst_at : (cores dirs : ℕ) → ℕ → Node
dst_at cs ds i = node_at cs ds (i % node_count cs ds)
