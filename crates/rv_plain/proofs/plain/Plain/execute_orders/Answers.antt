use Rattle.std.proofs.Common.{refl, ◌∙◌}
use Rattle.rv_plain.proofs.Serials.{executed-next, none-next, not_rising, tid_before-next}
use Rattle.rv_plain.proofs.plain.Plain.execute_orders.Goals as goal
use Rattle.rules_program.specs.Plain.{serial}

pub loop-i-init : goal.loop-i-init
unfolding serial
loop-i-init c = record { executed = rw c.new-commits.ensures refl; last = refl; loaded = refl }

pub returns-then-order-last-clause-fault : goal.returns-then-order-last-clause-fault
returns-then-order-last-clause-fault c =
    not_rising c.args.self.now c.loop-i.self c.args.before.0 c.args.orders.now c.loop-i.i c.loop-i.commits c.loop-i-test.true
    c.loop-i.invariant.executed (rw (← c.loop-i.invariant.last) c.if-order-last.true)

pub returns-in-Err-NotEnding-clause-fault : goal.returns-in-Err-NotEnding-clause-fault
returns-in-Err-NotEnding-clause-fault c =
    let none = rw c.in-Err-NotEnding.field-0-is at c.in-Err-NotEnding.ensures.none in
    none-next c.args.self.now c.loop-i.self c.args.before.0 c.args.orders.now c.loop-i.i c.loop-i.commits c.loop-i-test.true
    c.loop-i.invariant.executed c.loop-i.invariant.loaded (rw (← c.loop-i.invariant.last) c.if-order-last.false) none

pub loop-i-preserved : goal.loop-i-preserved
loop-i-preserved c = record {
  executed = rw c.in-Ok-push.ensures (
      executed-next c.args.self.now c.loop-i.self c.transaction.new.self c.args.before.0 c.args.orders.now c.loop-i.i c.loop-i.commits
      c.in-Ok.done c.loop-i-test.true c.loop-i.invariant.executed c.loop-i.invariant.loaded
      (rw (← c.loop-i.invariant.last) c.if-order-last.false) c.in-Ok.ensures.did
      );
  last = rw (tid_before-next c.args.before.0 c.args.orders.now c.loop-i.i c.loop-i-test.true) refl;
  loaded = c.transaction.ensures.loaded ∙ c.loop-i.invariant.loaded;
}
