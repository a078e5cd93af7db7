-- The messages so far, with those that are left, are all.
use Rattle.std.proofs.Common.{◌≡◌, ◌+◌, ◌≤◌, drop, length}
use Rattle.rules_maps.specs.Bridge.{node_of}
use Rattle.tcc_msg.specs.Plain.{sends_of}
use Rattle.watch_machine.proofs.sending.count_to.Given as goal

abbrev pub invariant-loop-to : goal.invariant-loop-to
invariant-loop-to l = record {
  all : l.count + length (sends_of (drop l.to-index l.messages) (node_of l.dst)) ≡ length (sends_of l.messages (node_of l.dst));
  few : l.count ≤ l.to-index;
}
