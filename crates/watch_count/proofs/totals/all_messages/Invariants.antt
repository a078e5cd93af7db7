-- The total so far, with the kinds that are left, is that of all; and it is small.
use Rattle.std.proofs.Common.{◌≡◌, ◌*◌, ◌^◌, ◌≤◌, drop}
use Rattle.watch_count.specs.Totals.{messages_sum, all_messages}
use Rattle.watch_count.specs.Sizes.{messages_size}
use Rattle.watch_count.proofs.totals.all_messages.Given as goal

abbrev pub invariant-loop-kind : goal.invariant-loop-kind
invariant-loop-kind l = record {
  total : messages_sum l.total (drop l.kind-index l.messages) ≡ all_messages l.messages;
  small : messages_size l.total ≤ l.kind-index * 2 ^ 56;
}
