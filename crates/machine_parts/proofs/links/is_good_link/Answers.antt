-- It is short, and its messages belong there.
use Rattle.std.proofs.Common.{arith}
use Rattle.machine_parts.proofs.links.is_good_link.Goals as goal

pub returns-then-sent-limits : goal.returns-then-sent-limits
returns-then-sent-limits c = (
  λ t. record { messages = c.has_good_messages.ensures.0 t; short = omega (arith, c.sent.ensures, c.if-sent-limits.true) },
  λ g. c.has_good_messages.ensures.1 g.messages,
)
