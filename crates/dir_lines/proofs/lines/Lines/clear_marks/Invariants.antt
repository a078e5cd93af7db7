use Rattle.std.proofs.Common.{◌≡◌}
use Rattle.dir_lines.specs.Record.{lines_of}
use Rattle.dir_lines.proofs.Clearing.{IsClearing}
use Rattle.dir_lines.proofs.lines.Lines.clear_marks.Given as goal

abbrev pub invariant-loop-left : goal.invariant-loop-left
invariant-loop-left g l =
    (g.Self.Lines.place l.self ≡ g.Self.Lines.place l.fn.self)
    × IsClearing (g.Self.Lines.place l.self) (lines_of (g.Self.Lines.records l.fn.self)) (lines_of (g.Self.Lines.records l.self)) l.left

abbrev pub decreases-loop-left : goal.decreases-loop-left
decreases-loop-left g l = l.left
