-- The number of the next message, with those that are left, is that behind all; what is told, with what is left, is all.
use Rattle.std.proofs.Common.{◌≡◌, ◌+◌, ◌++◌, drop, length, map}
use Rattle.rules_maps.specs.Bridge.{node_of}
use Rattle.tcc_msg.specs.Plain.{sends_of}
use Rattle.watch.specs.Plain.{fact_of}
use Rattle.watch_machine.specs.Telling.{numbered_from}
use Rattle.watch_machine.proofs.sending.tell_numbered.Given as goal

abbrev pub invariant-loop-to : goal.invariant-loop-to
invariant-loop-to l = record {
  number : l.seq + length (sends_of (drop l.to-index l.messages) (node_of l.dst)) ≡ l.first + length (sends_of l.messages (node_of l.dst));
  told : map fact_of l.facts ++ numbered_from (node_of l.src) (node_of l.dst) l.seq (sends_of (drop l.to-index l.messages) (node_of l.dst))
      ≡ map fact_of l.fn.facts ++ numbered_from (node_of l.src) (node_of l.dst) l.first (sends_of l.messages (node_of l.dst));
}
