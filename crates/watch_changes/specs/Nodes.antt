-- The records of one node of a machine.
use Rattle.std.specs.Prelude.{ℕ, ◌≡◌, false, List, [], ◌∷◌, map}
use Rattle.rules_maps.specs.Nodes.{Node, Core, Dir, Vendor, node_eq}
use Rattle.rules_maps.specs.Shape.{Shape}
use Rattle.rules_tcc.specs.State.{World}
use Rattle.rules_tcc.specs.Useful.{nodes}
use Rattle.watch_state.specs.Cores.{core_records}
use Rattle.watch_state.specs.Directories.{directory_records}
use Rattle.watch_state.specs.Records.{Record, VendorIs}

unfoldable pub records_at : Shape → (first : ℕ → ℕ) → World → Node → List Record
records_at sh first w (Core c) = core_records sh c (w.cores c)
records_at sh first w (Dir d) = directory_records sh first d (w.dirs d)
records_at sh first w Vendor = VendorIs w.next ∷ []

-- of all nodes, each a list
abbrev pub records_by_node : Shape → (first : ℕ → ℕ) → World → List (List Record)
records_by_node sh first w = map (records_at sh first w) (nodes sh)

-- all nodes but this one have the same records in both
abbrev pub AreAlikeBut : Shape → (first : ℕ → ℕ) → Node → (w v : World) → Type 0
AreAlikeBut sh first n w v = (m : Node) → node_eq m n ≡ false → records_at sh first w m ≡ records_at sh first v m
