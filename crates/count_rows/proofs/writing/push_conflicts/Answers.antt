-- Conflict by conflict.
use Rattle.std.proofs.Common.{codes}
use Rattle.count_rows.specs.Rows.{conflict_numbers}
use Rattle.count_rows.proofs.Written.{entries-end, entry-more}
use Rattle.count_rows.proofs.writing.push_conflicts.Goals as goal

pub loop-conflict-preserved : goal.loop-conflict-preserved
loop-conflict-preserved c =
    entry-more (codes "conflict") conflict_numbers _ c.loop-conflict.conflict-iterator c.next.new.self _ _ _ c.in-Some.ensures.steps
    c.loop-conflict.invariant c.in_ok-push_conflict.ensures

pub returns : goal.returns
returns c =
    entries-end (codes "conflict") conflict_numbers c.loop-conflict.conflict-iterator _ _ c.in-None.ensures.steps.0
    c.loop-conflict.invariant
