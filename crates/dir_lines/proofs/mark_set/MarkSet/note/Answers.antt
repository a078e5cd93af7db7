use Rattle.std.proofs.Common.{◌*◌, ◌/◌, ◌<◌, length, arith}
use Rattle.dir_lines.proofs.Sixteens.{counts-most}
use Rattle.dir_lines.proofs.Spilling.{marked-more}
use Rattle.dir_lines.proofs.mark_set.MarkSet.note.Goals as goal

pub more-requires-clause-fits : goal.more-requires-clause-fits
more-requires-clause-fits c =
    let h : c.args.place < 16 * length c.spill.new.many = omega (arith, c.requires.within, c.spill.ensures.room) in
    counts-most c.requires.marks.0 c.spill.new.many (c.args.place / 16) (c.spill.ensures.spilled c.requires.marks.0 c.requires.marks.2).1
    (omega arith)

pub returns-else-total-eq0-clause-marks : goal.returns-else-total-eq0-clause-marks
returns-else-total-eq0-clause-marks c p e m =
    let h : c.args.place < 16 * length c.spill.new.many = omega (arith, c.requires.within, c.spill.ensures.room) in
    marked-more p c.spill.new.few.items c.spill.new.many c.more.new.many c.args.place (c.spill.ensures.spilled p m).0
    (c.spill.ensures.spilled p m).1 h e c.more.ensures
