-- Where those that are left rise from the next place on, all rise.
use Rattle.std.proofs.Common.{drop}
use Rattle.watch_machine.specs.Rising.{Rises}
use Rattle.watch_machine.proofs.sending.rises.Given as goal

abbrev pub invariant-loop-to : goal.invariant-loop-to
invariant-loop-to l = Rises l.config l.next (drop l.to-index l.messages) → Rises l.config 0 l.messages
