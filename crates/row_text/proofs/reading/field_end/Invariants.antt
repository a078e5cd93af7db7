use Rattle.std.proofs.Common.{All, take, ◌<◌}
use Rattle.row_text.proofs.reading.field_end.Given as goal

-- the field goes on so far
abbrev pub invariant-loop-i : goal.invariant-loop-i
invariant-loop-i l = All (λ b. 32 < b) (take l.i l.bytes)
