-- Line by line.
use Rattle.std.proofs.Common.{codes}
use Rattle.count_rows.specs.Rows.{line_numbers}
use Rattle.count_rows.proofs.Written.{entries-end, entry-more}
use Rattle.count_rows.proofs.writing.push_lines.Goals as goal

pub loop-line-preserved : goal.loop-line-preserved
loop-line-preserved c =
    entry-more (codes "at-line") line_numbers _ c.loop-line.line-iterator c.next.new.self _ _ _ c.in-Some.ensures.steps
    c.loop-line.invariant c.in_ok-push_line.ensures

pub returns : goal.returns
returns c = entries-end (codes "at-line") line_numbers c.loop-line.line-iterator _ _ c.in-None.ensures.steps.0 c.loop-line.invariant
