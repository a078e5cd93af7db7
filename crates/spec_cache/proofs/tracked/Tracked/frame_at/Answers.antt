use Rattle.std.proofs.Common.{◌∙◌, sym}
use Rattle.spec_cache.proofs.Tallied.{other-tag}
use Rattle.spec_cache.proofs.tracked.Tracked.frame_at.Goals as goal

pub returns-then-index-line : goal.returns-then-index-line
returns-then-index-line c =
    rw (sym c.self.view_is) (other-tag c.self.inside.frames.items c.self.inside.tags.items c.self.invariant.tags c.args.at c.args.line.0
    c.index.result.now
    (rw (sym c.self.view_is) at c.requires) (λ e. c.if-index-line.true (c.index.ensures ∙ e)))
