-- Line by line.
use Rattle.tcc_cli.proofs.Numbered.{push-done, push-more}
use Rattle.tcc_cli.proofs.phases.push_phases.Goals as goal

pub loop-i-preserved : goal.loop-i-preserved
loop-i-preserved c =
    push-more _ _ _ c.args.commits.now c.args.phases.now c.loop-i.i c.index-commits-i.result _ c.loop-i-test.true c.requires
    c.index-commits-i.is c.in_ok-push_phase.ensures c.loop-i.invariant

pub returns : goal.returns
returns c = push-done _ _ c.args.commits.now c.args.phases.now c.loop-i.i c.loop-i-test.false c.loop-i.invariant
