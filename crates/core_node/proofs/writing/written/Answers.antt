use Rattle.std.proofs.Common.{ap, ◌∙◌, map, arith}
use Rattle.tcc_base.specs.declared.names.LineAddr.{LineAddr}
use Rattle.tcc_base.specs.declared.names.Mask.{Mask}
use Rattle.spec_cache.specs.Home.{mark_of}
use Rattle.core_node.specs.View.{core_of}
use Rattle.core_node.proofs.Written.{mark-below, told-all, told-more}
use Rattle.core_node.proofs.writing.written.Goals as goal

pub line_here-requires-clause-exists : goal.line_here-requires-clause-exists
unfolding core_of
line_here-requires-clause-exists c =
    let k = c.args.core.now in
    let none : LineAddr × Mask = (record { 0 = 0 }, record { 0 = 0 }) in
    let below = mark-below k.config (core_of k) c.deref-line-items.result.now c.loop-line.line-index none
    (ap (map mark_of) c.deref-line-items.ensures.value ∙ c.in_ok-marks.ensures.marks) c.loop-line-test.true in
    omega (arith, below, c.requires.small)

pub loop-line-preserved : goal.loop-line-preserved
loop-line-preserved c =
    c.in-Ok.ensures ∙ told-more (core_of c.args.core.now) c.args.tid.0 c.deref-line-items.result.now c.loop-line.line-index _
    c.loop-line.told
    c.line_here.result c.loop-line-test.true c.loop-line.invariant c.line_here.ensures

pub returns-clause-lines : goal.returns-clause-lines
unfolding core_of
returns-clause-lines c =
    let k = c.args.core.now in
    told-all k.config (core_of k) c.args.tid.0 c.deref-line-items.result.now c.loop-line.line-index c.loop-line.told
    (ap (map mark_of) c.deref-line-items.ensures.value
    ∙ c.in_ok-marks.ensures.marks) (omega (arith, c.loop-line-test.false)) c.loop-line.invariant
