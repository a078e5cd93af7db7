use Rattle.std.proofs.Common.{◌≡◌, drop}
use Rattle.schedule_text.specs.Reading.{digits_at}
use Rattle.schedule_text.proofs.fields.digits.Given as goal

-- the number so far and the digits to come make what all digits make
abbrev pub invariant-loop-i : goal.invariant-loop-i
invariant-loop-i l = digits_at l.end l.number (drop l.i l.bytes) ≡ digits_at l.end l.fn.first l.bytes
