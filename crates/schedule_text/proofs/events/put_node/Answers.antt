use Rattle.std.proofs.Common.{arith}
use Rattle.std.proofs.lemmas.Str.Ascii.{IsAscii-cons}
use Rattle.std.specs.Fmt.{decimal}
use Rattle.schedule_text.specs.Grammar.{node_word}
use Rattle.schedule_text.proofs.events.put_node.Goals as goal

pub returns-in-Core-clause-ascii : goal.returns-in-Core-clause-ascii
unfolding node_word
returns-in-Core-clause-ascii c = rw c.in-Core.is (IsAscii-cons 99 (decimal c.in-Core.core.0) (omega arith) c.put_small-at.ensures.ascii)

pub returns-in-Dir-clause-ascii : goal.returns-in-Dir-clause-ascii
unfolding node_word
returns-in-Dir-clause-ascii c = rw c.in-Dir.is (IsAscii-cons 100 (decimal c.in-Dir.dir.0) (omega arith) c.put_small-at-in-Dir.ensures.ascii)
