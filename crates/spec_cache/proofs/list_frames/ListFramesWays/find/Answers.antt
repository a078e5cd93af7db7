use Rattle.std.proofs.Common.{◌∙◌, sym, ap, arith}
use Rattle.spec_cache.specs.Held.{Held, frame_of}
use Rattle.spec_cache.proofs.Forms.{absent_all}
use Rattle.spec_cache.proofs.list_frames.ListFramesWays.find.Goals as goal

pub returns-clause-found : goal.returns-clause-found
returns-clause-found c =
    ap (λ (h : Held). frame_of h.frames c.args.line.0) (sym c.self.view_is)
    ∙ ap (λ fs. frame_of fs c.args.line.0) (sym c.deref-way-items.ensures.value)
    ∙ absent_all c.deref-way-items.result.now c.loop-at.at c.args.line.0 (omega arith) c.loop-at.invariant
