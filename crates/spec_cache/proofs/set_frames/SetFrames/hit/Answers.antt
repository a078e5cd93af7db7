use Rattle.std.proofs.Common.{sym}
use Rattle.spec_cache.proofs.InPlaces.{hits_answer, hits_same}
use Rattle.spec_cache.proofs.set_frames.SetFrames.hit.Goals as goal

pub returns-clause-answer : goal.returns-clause-answer
returns-clause-answer c =
    rw (sym c.self.view_is) (hits_answer c.self.inside.ways c.self.invariant.in_order c.line_of_word-line.result.0 c.args.w.0 c.args.mark
    c.line_of_word-line.ensures
    c.hit.result (rw c.place_of_word.ensures at c.hit.ensures))

pub returns-clause-same : goal.returns-clause-same
returns-clause-same c =
    rw (sym c.self.view_is) (hits_same c.self.inside.ways c.self.invariant.in_order c.line_of_word-line.result.0 c.args.w.0 c.args.mark
    c.line_of_word-line.ensures
    c.hit.result (rw c.place_of_word.ensures at c.hit.ensures))
