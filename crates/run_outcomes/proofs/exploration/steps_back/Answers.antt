use Rattle.std.proofs.Common.{◌<◌, length, arith}
use Rattle.run_outcomes.proofs.Paths.{lead-more}
use Rattle.run_outcomes.specs.Explored.{way_at}
use Rattle.run_outcomes.proofs.exploration.steps_back.Goals as goal

pub loop-at-preserved : goal.loop-at-preserved
loop-at-preserved c =
    let ways = c.args.ways.now in
    let positive : 0 < c.loop-at.at = grind arith in
    let before : (way_at ways c.loop-at.at).from < c.loop-at.at = c.requires.back c.loop-at.at positive c.loop-at.invariant.1 in
    let inside : (way_at ways c.loop-at.at).from < length ways = omega (arith, before, c.loop-at.invariant.1) in (
      rw (c.in_ok-push.ensures, c.way_to-way.ensures)
          (lead-more ways c.loop-at.at c.args.number c.loop-at.back positive c.loop-at.invariant.0),
      rw c.way_to-way.ensures inside,
    )
