-- One more node is taken from behind its lock.
use Rattle.std.proofs.Common.{◌≡◌, ap, sym, ◌∙◌, subst, arith, rules}
use Rattle.std.specs.Prelude.{length}
use Rattle.node_locks.specs.Turns.{entries_in}
use Rattle.node_locks.specs.Wiring.{AreOf, IsOf, logs_of}
use Rattle.node_locks.proofs.Entries.{entries-last, no-entries}
use Rattle.node_locks.proofs.Rounds.{all-none, all-push}
use Rattle.node_locks.proofs.farm.take_up.Goals as goal

pub loop-desk-init : goal.loop-desk-init
loop-desk-init g c =
    let none : length c.args.room.items ≡ 0 = search rules in
    record {
      are = all-none (IsOf g.W.Setup.code g.W.Setup.link) c.args.room.items none;
      parts = search rules;
      amount = c.requires.amount ∙ sym (no-entries c.args.room.items none);
      count = search rules;
      room = search rules;
    }

pub loop-desk-preserved : goal.loop-desk-preserved
loop-desk-preserved g c =
    let desk = c.into_inner-node.result in
    let before = c.loop-desk.nodes.items in
    let entries = ap (λ l. entries_in (logs_of l)) c.push_reserved.ensures.items ∙ entries-last before desk.node in
    record {
      are = subst (λ l. AreOf g.W.Setup.code g.W.Setup.link l) (sym c.push_reserved.ensures.items)
          (all-push (IsOf g.W.Setup.code g.W.Setup.link) before desk.node desk.is c.loop-desk.invariant.are);
      parts = search rules;
      amount = omega (arith, c.loop-desk.invariant.amount, c.merge.ensures.amount, desk.same, entries);
      count = search rules;
      room = search rules;
    }
