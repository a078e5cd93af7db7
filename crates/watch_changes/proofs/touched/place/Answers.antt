-- One line more comes before.
use Rattle.std.proofs.Common.{arith}
use Rattle.watch_changes.specs.Plain.{line_numbers, with_line}
use Rattle.watch_changes.proofs.Listing.{place-more}
use Rattle.watch_changes.proofs.touched.place.Goals as goal

pub loop-at-preserved : goal.loop-at-preserved
loop-at-preserved c = (
  omega (arith, c.loop-at-test.true),
  place-more c.args.line.0 c.args.lines.now c.loop-at.at _ (with_line c.args.line.0 (line_numbers c.args.lines.now))
      c.loop-at-test.true c.if-lines-at.true c.loop-at.invariant.1,
)
