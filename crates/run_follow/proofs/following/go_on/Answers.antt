-- The event that comes next is taken, or the call ends.
use Rattle.std.proofs.Common.{◌∙◌, Err, None, Ok, OnOk, Result, Some, ap, arith, map}
use Rattle.rv_plain.specs.PlainState.{order_of}
use Rattle.tcc_msg.specs.Plain.{event_of}
use Rattle.run_follow.specs.Following.{turn_of}
use Rattle.run_follow.proofs.Followed.{going-ends, going-more, going-none, going-same, going-stops, next-read}
use Rattle.run_follow.proofs.following.go_on.Goals as goal

pub loop-init : goal.loop-init
loop-init c = going-none (map order_of c.args.orders.now) c.args.refined.now c.args.most c.requires

-- the machine that was read is the one that was settled
pub loop-preserved : goal.loop-preserved
loop-preserved c =
    let put = c.in_ok-settle.ensures in
    let did = c.in-Ok.ensures in
    let orders = map order_of c.args.orders.now in
    let settled = going-same c.settle.new.self c.loop.invariant
    (record { history = put.history; taken = put.taken; events = put.events; code = put.code }) in
    let turn = c.turn-turn.ensures ∙ ap (turn_of orders) (c.commits.ensures ∙ ap (λ m. m.commits) c.system.ensures.machine) in
    going-more c.step.new.self c.in-Some.e settled c.loop-test.true
    (next-read orders c.settle.new.self.machine c.system-in-loop.result.now _ (Some (event_of c.in-Some.e)) c.system-in-loop.ensures.machine
    turn c.in-Some.ensures)
    (record { next = did.next; taken = did.taken; events = did.counted; code = did.code })

-- no event may come
pub returns-in_default-clause-took : goal.returns-in_default-clause-took
returns-in_default-clause-took c =
    let put = c.in_ok-settle.ensures in
    let orders = map order_of c.args.orders.now in
    let settled = going-same c.settle.new.self c.loop.invariant
    (record { history = put.history; taken = put.taken; events = put.events; code = put.code }) in
    let turn = c.turn-turn.ensures ∙ ap (turn_of orders) (c.commits.ensures ∙ ap (λ m. m.commits) c.system.ensures.machine) in
    going-stops settled c.loop-test.true
    (next-read orders c.settle.new.self.machine c.system-in-loop.result.now _ None c.system-in-loop.ensures.machine turn
    c.in_default.ensures)

on-ok : {E P : Type 0} (r : Result (Unit {0}) E) → P → OnOk r P
on-ok (Ok x) p = p
on-ok (Err e) p = tt

-- there were as many as there may be
pub returns-clause-took : goal.returns-clause-took
returns-clause-took c =
    let put = c.settle-2.ensures in
    on-ok c.settle-2.result (going-ends (going-same c.settle-2.new.self c.loop.invariant
    (record { history = put.history; taken = put.taken; events = put.events; code = put.code }))
    (omega (arith, c.loop-test.false, c.loop.auto.counter-end)))
