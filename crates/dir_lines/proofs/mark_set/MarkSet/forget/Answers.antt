use Rattle.std.proofs.Common.{◌<◌, sum, arith}
use Rattle.dir_lines.proofs.Sixteens.{counts-some}
use Rattle.dir_lines.proofs.Spilling.{marked-less}
use Rattle.dir_lines.proofs.mark_set.MarkSet.forget.Goals as goal

pub less-requires-clause-some : goal.less-requires-clause-some
less-requires-clause-some c =
    let some : 0 < sum c.args.self.now.many = omega (arith, c.total.ensures, c.if-total-eq0.false) in
    counts-some c.requires.marks.0 c.args.self.now.many c.args.place (c.requires.marks.2.counted some).1 c.requires.within
    c.requires.marks.1

pub returns-else-total-eq0-clause-marks : goal.returns-else-total-eq0-clause-marks
returns-else-total-eq0-clause-marks c p e m =
    let some : 0 < sum c.args.self.now.many = omega (arith, c.total.ensures, c.if-total-eq0.false) in
    marked-less p c.args.self.now.few.items c.args.self.now.many c.less.new.many c.args.place some c.requires.within e m c.less.ensures
