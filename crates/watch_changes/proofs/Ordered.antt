-- The records of each node are ordered by their keys.
use Rattle.std.proofs.Common.{ℕ}
use Rattle.rules_maps.specs.Nodes.{Node, Core, Dir, Vendor}
use Rattle.rules_maps.specs.Shape.{Shape}
use Rattle.rules_tcc.specs.State.{World}
use Rattle.watch_changes.specs.Nodes.{records_at}
use Rattle.watch_changes.specs.Order.{AreOrdered}
use Rattle.watch_changes.proofs.OrderedCores.{core-ordered}
use Rattle.watch_changes.proofs.OrderedDirectories.{directory-ordered}

pub records-ordered : (sh : Shape) (first : ℕ → ℕ) (w : World) (n : Node) → AreOrdered (records_at sh first w n)
unfolding records_at
records-ordered sh first w (Core c) = core-ordered sh c (w.cores c)
records-ordered sh first w (Dir d) = directory-ordered sh first d (w.dirs d)
records-ordered sh first w Vendor = (record {}, record {})
