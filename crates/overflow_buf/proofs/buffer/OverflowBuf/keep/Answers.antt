use Rattle.std.proofs.Common.{subst}
use Rattle.overflow_buf.specs.Kept.{Entries}
use Rattle.overflow_buf.proofs.Lines.{Keeps, IsBuffer-kept}
use Rattle.overflow_buf.proofs.Drained.{keeps-updated}
use Rattle.overflow_buf.proofs.buffer.OverflowBuf.keep.Goals as goal

pub invariant_of-self : goal.invariant_of-self
invariant_of-self c = rw c.in_default.ensures.err c.self.invariant

pub invariant_of-self-2 : goal.invariant_of-self-2
invariant_of-self-2 c =
    IsBuffer-kept c.self.inside.lines.entries c.insert.new.self.entries c.args.line c.args.kept
    (keeps-updated c.self.inside.lines.entries c.insert.new.self.entries c.args.line c.args.kept c.in-Ok.ensures.updates.0) c.requires
    c.self.invariant

pub returns-clause-kept : goal.returns-clause-kept
returns-clause-kept c =
    subst (λ (es : Entries). Keeps es c.insert.new.self.entries c.args.line c.args.kept) c.self.view_is
    (keeps-updated c.self.inside.lines.entries c.insert.new.self.entries c.args.line c.args.kept c.in-Ok.ensures.updates.0)
