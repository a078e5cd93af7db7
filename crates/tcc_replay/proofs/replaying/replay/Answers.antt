-- One more event is taken, or the first that isn't enabled is told.
use Rattle.std.proofs.Common.{◌∙◌, ◌≤◌, length, Err, ap, sym, subst, arith}
use Rattle.image_load.specs.Contents.{started}
use Rattle.tcc_msg.specs.declared.event.Event.TheVariants.{Exec}
use Rattle.tcc_replay.specs.Replayed.{IsRefusedAt}
use Rattle.tcc_replay.proofs.Prefixes.{refused-here, took-length, took-more, took-none, took-whole}
use Rattle.tcc_replay.proofs.replaying.replay.Goals as goal

pub loop-e-init : goal.loop-e-init
loop-e-init c = took-none c.in-Ok.machine c.args.loaded.now c.args.events.now c.in-Ok.ensures.taken c.in-Ok.ensures.code

pub step-requires : goal.step-requires
step-requires c =
    let few : c.loop-e.e-index ≤ length c.args.events.now = c.loop-e.auto.e-index-end in
    let long = took-length c.loop-e.machine c.args.loaded.now c.args.events.now c.loop-e.e-index c.loop-e.invariant few in
    omega (arith, long, c.taken.ensures.refined.count, c.loop-e-test.true, c.requires)

pub loop-e-preserved : goal.loop-e-preserved
loop-e-preserved c =
    took-more c.loop-e.machine c.step.new.self c.args.loaded.now c.args.events.now c.loop-e.e-index
    (Exec (record { 0 = 0 })) c.loop-e.invariant c.loop-e-test.true
    c.in-Ok-step.ensures.taken c.in-Ok-step.ensures.code

pub returns-in-Err-Refused-clause-fault : goal.returns-in-Err-Refused-clause-fault
returns-in-Err-Refused-clause-fault c =
    let few : c.loop-e.e-index ≤ length c.args.events.now = c.loop-e.auto.e-index-end in
    let long = took-length c.loop-e.machine c.args.loaded.now c.args.events.now c.loop-e.e-index c.loop-e.invariant few in
    subst (IsRefusedAt (started c.args.loaded.now) c.args.events.now) (sym (ap length c.taken.ensures.taken ∙ long))
    (refused-here c.loop-e.machine c.args.loaded.now c.args.events.now c.loop-e.e-index (Exec (record { 0 = 0 }))
    c.taken.ensures.refined c.loop-e.invariant c.loop-e-test.true
    (c.in-Err-Refused.ensures.refused.0 (ap (λ x. Err x) c.in-Err-Refused.field-0-is)))

pub returns-in-Ok-settle-clause-code : goal.returns-in-Ok-settle-clause-code
returns-in-Ok-settle-clause-code c = c.settle.ensures.code ∙ c.loop-e.invariant.code

pub returns-in-Ok-settle-clause-taken : goal.returns-in-Ok-settle-clause-taken
returns-in-Ok-settle-clause-taken c =
    c.settle.ensures.taken
    ∙ took-whole c.loop-e.machine c.args.loaded.now c.args.events.now c.loop-e.e-index c.loop-e.invariant
    (omega (arith, c.loop-e.auto.e-index-end, c.loop-e-test.false))
