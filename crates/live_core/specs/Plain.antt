-- The reasons of the code as those of the definitions, which are plain data over numbers.
use Rattle.live_core.specs.Reasons as plain
use Rattle.live_core.specs.declared.reason.Reason.{Reason}
use Rattle.live_core.specs.declared.reason.Reason.TheVariants as code

abbrev pub plain_reason : Reason → plain.Reason
plain_reason (code.Early t) = plain.Early t.0
plain_reason (code.Marked m) = plain.Marked m.0
plain_reason (code.Asked c) = plain.Asked c.0
plain_reason (code.Count n) = plain.Count n
plain_reason (code.Tag t) = plain.Tag t.0
