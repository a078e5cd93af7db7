use Rattle.std.proofs.Common.{◌-◌, length}
use Rattle.tcc_base.specs.Limits.{text_limit}
use Rattle.schedule_text.proofs.Texts.{Front}
use Rattle.schedule_text.proofs.reading.read.Given as goal

-- the bytes begin with the lines that were read
abbrev pub invariant-loop-event : goal.invariant-loop-event
invariant-loop-event l = Front l.bytes l.config l.events l.rest

-- how many events may follow
abbrev pub decreases-loop-event : goal.decreases-loop-event
decreases-loop-event l = text_limit - length l.events
