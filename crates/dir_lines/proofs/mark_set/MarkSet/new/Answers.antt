use Rattle.dir_lines.proofs.Spilling.{marked-none}
use Rattle.dir_lines.proofs.mark_set.MarkSet.new.Goals as goal

pub returns-in-Ok-clause-none : goal.returns-in-Ok-clause-none
returns-in-Ok-clause-none c p h = marked-none p c.in-Ok.few.items c.in_ok-many.many _ c.in-Ok.ensures.items c.in_ok-many.ensures h
