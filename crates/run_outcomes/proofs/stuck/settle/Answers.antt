use Rattle.std.proofs.Common.{length, arith}
use Rattle.run_outcomes.proofs.Marking.{marks-taken, taken-can, left-taken}
use Rattle.run_outcomes.proofs.stuck.settle.Goals as goal

pub mark_sources-requires-clause-marks : goal.mark_sources-requires-clause-marks
mark_sources-requires-clause-marks c =
    let n = length c.args.explored.now.states in
    marks-taken c.args.explored.now.loaded c.args.explored.now.states c.args.explored.now.edges n n c.in-Some.to c.loop-to.marks
    c.next_waiting.new.marks c.loop-to.invariant (omega arith) c.next_waiting.ensures.marked c.in-Some.ensures.taken

pub mark_sources-requires-clause-to : goal.mark_sources-requires-clause-to
mark_sources-requires-clause-to c =
    let n = length c.args.explored.now.states in
    taken-can c.args.explored.now.loaded c.args.explored.now.states c.args.explored.now.edges n n c.in-Some.to c.loop-to.marks
    c.next_waiting.new.marks.waiting c.loop-to.invariant c.in-Some.ensures.taken

pub loop-to-smaller : goal.loop-to-smaller
loop-to-smaller c =
    let one = left-taken c.in-Some.to c.loop-to.marks c.next_waiting.new.marks c.next_waiting.ensures.marked c.in-Some.ensures.taken in
    omega (arith, one, c.in_ok-mark_sources.ensures.fewer)
