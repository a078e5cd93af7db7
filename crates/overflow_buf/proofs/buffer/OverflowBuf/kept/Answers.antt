use Rattle.std.proofs.Common.{ap, ◌∙◌}
use Rattle.overflow_buf.specs.Kept.{kept_at, Entries}
use Rattle.overflow_buf.proofs.Drained.{looked_up}
use Rattle.overflow_buf.proofs.buffer.OverflowBuf.kept.Goals as goal

pub returns-clause-value : goal.returns-clause-value
returns-clause-value c =
    c.copied.ensures ∙ c.get.ensures.value ∙ looked_up c.self.inside.lines.entries c.args.line
    ∙ ap (λ (es : Entries). kept_at es c.args.line) c.self.view_is
