use Rattle.std.proofs.Common.{arith}
use Rattle.std.specs.Fmt.{decimal}
use Rattle.schedule_text.specs.Grammar.{event_line}
use Rattle.schedule_text.proofs.Ascii.{three_words}
use Rattle.schedule_text.proofs.events.put_evict.Goals as goal

pub returns-clause-ascii : goal.returns-clause-ascii
unfolding event_line
returns-clause-ascii c =
    three_words 120 (decimal c.args.core) (decimal c.args.set) (decimal c.args.way) (omega arith)
    c.put_small_field-at-2.ensures.ascii c.put_field-at.ensures.ascii c.put_small_field-at.ensures.ascii
