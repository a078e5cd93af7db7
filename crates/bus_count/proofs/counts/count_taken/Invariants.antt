-- What is counted, with the lines that are left, is what all lines come to.
use Rattle.std.proofs.Common.{◌≡◌, drop}
use Rattle.rules_maps.specs.Nodes.{Core}
use Rattle.bus_count.proofs.Folds.{of_lines}
use Rattle.bus_count.proofs.counts.count_taken.Given as goal

abbrev pub invariant-loop-line : goal.invariant-loop-line
invariant-loop-line l =
    of_lines l.tid.0 (Core l.core.0) (drop l.line-index l.lines) l.common ≡ of_lines l.tid.0 (Core l.core.0) l.lines l.fn.common
