-- The lines from the last one on are stored.
use Rattle.std.proofs.Common.{◌≤◌, length}
use Rattle.bus_tcc.proofs.Stores.{StoredFrom}
use Rattle.bus_tcc.proofs.storing.store_lines.Given as goal

abbrev pub invariant-loop-left : goal.invariant-loop-left
invariant-loop-left l = record { so_far : StoredFrom l.lines l.left l.fn.ram l.ram; most : l.left ≤ length l.lines }

abbrev pub decreases-loop-left : goal.decreases-loop-left
decreases-loop-left l = l.left
