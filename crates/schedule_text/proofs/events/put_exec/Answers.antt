use Rattle.std.proofs.Common.{arith}
use Rattle.std.specs.Fmt.{decimal}
use Rattle.schedule_text.specs.Grammar.{event_line}
use Rattle.schedule_text.proofs.Ascii.{one_word}
use Rattle.schedule_text.proofs.events.put_exec.Goals as goal

pub returns-clause-ascii : goal.returns-clause-ascii
unfolding event_line
returns-clause-ascii c = one_word 101 (decimal c.args.core) (omega arith) c.put_small_field-at.ensures.ascii
