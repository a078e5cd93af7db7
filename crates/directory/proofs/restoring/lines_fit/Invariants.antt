-- The lines below this one, which is at home, fit.
use Rattle.std.proofs.Common.{◌≡◌, ◌%◌, ◌-◌}
use Rattle.dir_lines.specs.Kept.{kept}
use Rattle.directory.proofs.Fitting.{FitBelow}
use Rattle.directory.proofs.restoring.lines_fit.Given as goal

abbrev pub invariant-loop-line : goal.invariant-loop-line
invariant-loop-line l =
    (l.line % l.fn.lines.place.shape.dirs ≡ l.fn.lines.place.dir)
    × FitBelow l.fn.lines.place.shape.cores (kept l.fn.lines) l.fn.lines.place l.line

abbrev pub decreases-loop-line : goal.decreases-loop-line
decreases-loop-line l = l.count - l.line
