use Rattle.std.proofs.Common.{◌≡◌, ◌+◌, length, length-append, ap, ◌∙◌, arith}
use Rattle.dir_lines.specs.Kept.{kept}
use Rattle.directory.specs.Invs.{told_all}
use Rattle.directory.proofs.Told.{told_all-length}
use Rattle.directory.proofs.invalidate.invalidate.Goals as goal

pub returns-in-Ok-clause-count : goal.returns-in-Ok-clause-count
returns-in-Ok-clause-count c =
    let longer = ap length c.in-Ok.ensures.sent ∙ length-append c.args.out.now.list.items
    (told_all c.args.lines.now.place.shape (kept c.args.lines.now) c.args.src.0 c.args.tid.0) in
    omega (
      arith,
      c.len.ensures,
      c.len-before.ensures,
      longer,
      told_all-length c.args.lines.now.place.shape (kept c.args.lines.now) c.args.src.0 c.args.tid.0,
    )
