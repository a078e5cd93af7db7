use Rattle.std.proofs.Common.{◌*◌, ◌<◌, length, sum, sym, ◌∙◌, arith}
use Rattle.rules_maps.proofs.Lemmas.{length-those}
use Rattle.dir_lines.proofs.Sixteens.{counts-sum}
use Rattle.dir_lines.proofs.mark_set.MarkSet.len.Goals as goal

pub returns-then-many-gt0 : goal.returns-then-many-gt0
returns-then-many-gt0 c p m =
    let some : 0 < sum c.args.self.now.many = omega (arith, c.total-many.ensures, c.if-many-gt0.true) in
    c.total-many.ensures
    ∙ (counts-sum p c.args.self.now.many (m.counted some).1 ∙ sym (length-those p (16 * length c.args.self.now.many)))
