-- The first useful event is taken, or the call ends.
use Rattle.std.proofs.Common.{◌∙◌, OnOk, Ok, Err, Result, ap, arith, sym}
use Rattle.net_core.specs.Machine.{program_of, settings_of, world_of}
use Rattle.rules_tcc.specs.Useful.{useful}
use Rattle.apart_run.proofs.Onward.{first-chosen, first_of, going-ends, going-more, going-none, going-same, going-stops}
use Rattle.apart_run.proofs.going.go_on.Goals as goal

pub loop-init : goal.loop-init
loop-init c = going-none c.args.refined.now c.args.steps c.requires

-- what is first for the machine that was read is first for this one
pub loop-preserved : goal.loop-preserved
loop-preserved c =
    let put = c.in_ok-settle.ensures in
    let did = c.in-Ok.ensures in
    let settled = going-same c.settle.new.self c.loop.invariant
    (record { history = put.history; taken = put.taken; events = put.events; code = put.code }) in
    let choice = ap first_of (sym c.system.ensures.machine)
    ∙ sym (first-chosen (useful (settings_of c.system.result.now) (program_of c.system.result.now) (world_of c.system.result.now)))
    ∙ sym c.in-Some.ensures in
    going-more c.step.new.self c.in-Some.e settled c.loop-test.true choice
    (record { next = did.next; taken = did.taken; events = did.counted; code = did.code })

-- no event is useful
pub returns-in_default-clause-took : goal.returns-in_default-clause-took
returns-in_default-clause-took c =
    let put = c.in_ok-settle.ensures in
    let settled = going-same c.settle.new.self c.loop.invariant
    (record { history = put.history; taken = put.taken; events = put.events; code = put.code }) in
    let choice = ap first_of (sym c.system.ensures.machine)
    ∙ sym (first-chosen (useful (settings_of c.system.result.now) (program_of c.system.result.now) (world_of c.system.result.now)))
    ∙ sym c.in_default.ensures in
    going-stops settled c.loop-test.true choice

on-ok : {E P : Type 0} (r : Result (Unit {0}) E) → P → OnOk r P
on-ok (Ok x) p = p
on-ok (Err e) p = tt

-- so many were taken
pub returns-clause-took : goal.returns-clause-took
returns-clause-took c =
    let put = c.settle-2.ensures in
    on-ok c.settle-2.result (going-ends (going-same c.settle-2.new.self c.loop.invariant
    (record { history = put.history; taken = put.taken; events = put.events; code = put.code }))
    (omega (arith, c.loop-test.false, c.loop.auto.counter-end)))
