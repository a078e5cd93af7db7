use Rattle.std.proofs.Common.{◌≤◌}
use Rattle.checkpoint_text.proofs.restoring.line_at.Given as goal

-- as many lines as bytes at most
abbrev pub invariant-loop-i : goal.invariant-loop-i
invariant-loop-i l = l.ended ≤ l.i
