-- One more event is taken, or the first that isn't is told.
use Rattle.std.proofs.Common.{◌≡◌, ◌∙◌, ◌+◌, ap, subst, arith, length}
use Rattle.std.specs.Prelude.{get_or}
use Rattle.std.proofs.lemmas.Option.{slice_get-get_or}
use Rattle.tcc_msg.specs.declared.event.Event.{Event}
use Rattle.tcc_msg.specs.declared.event.Event.TheVariants.{Exec}
use Rattle.tcc_phase.specs.Answers.{Ran}
use Rattle.tcc_phase.proofs.Runs.{ran-more, ran-none, stopped-at}
use Rattle.tcc_phase.proofs.system.PhaseSystem.run.Goals as goal

pub loop-i-init : goal.loop-i-init
loop-i-init c = ran-none c.args.self.now.refined.machine c.args.events.now

pub step-requires : goal.step-requires
step-requires c = let e = c.loop-i.invariant.events in omega (arith, e, c.requires, c.loop-i-test.true)

pub loop-i-preserved : goal.loop-i-preserved
loop-i-preserved c =
    let e : Event = get_or c.args.events.now c.loop-i.i (Exec (record { 0 = 0 })) in
    ran-more c.args.self.now.refined.machine c.loop-i.self.refined.machine c.step.new.self.refined.machine c.loop-i.i c.args.events.now e
    c.loop-i.invariant (slice_get-get_or c.args.events.now c.loop-i.i (Exec (record { 0 = 0 })) c.loop-i-test.true) c.in-Ok.ensures.next
    c.in-Ok.ensures.counted c.in-Ok.ensures.code

pub returns-in-Err-clause-stopped : goal.returns-in-Err-clause-stopped
returns-in-Err-clause-stopped c =
    let e : Event = get_or c.args.events.now c.loop-i.i (Exec (record { 0 = 0 })) in
    stopped-at c.args.self.now.refined.machine c.loop-i.self.refined.machine c.step.new.self.refined.machine c.loop-i.i c.args.events.now e
    c.in-Err.error c.loop-i.invariant (slice_get-get_or c.args.events.now c.loop-i.i (Exec (record { 0 = 0 })) c.loop-i-test.true)
    c.in-Err.ensures.unchanged c.in-Err.ensures.code c.in-Err.ensures.refused

pub returns-in-Err-clause-code : goal.returns-in-Err-clause-code
returns-in-Err-clause-code c = c.in-Err.ensures.code ∙ c.loop-i.invariant.code

whole : (c : goal.After-loop-i) → c.loop-i.i ≡ length c.args.events.now
whole c = omega (arith, c.loop-i.auto.i-end, c.loop-i-test.false)

pub returns-clause-ran : goal.returns-clause-ran
returns-clause-ran c =
    subst (λ k. Ran c.args.self.now.refined.machine c.loop-i.self.refined.machine k c.args.events.now) (whole c) c.loop-i.invariant.ran

pub returns-clause-counted : goal.returns-clause-counted
returns-clause-counted c = c.loop-i.invariant.events ∙ ap (λ k. c.args.self.now.refined.machine.events + k) (whole c)

pub returns-clause-code : goal.returns-clause-code
returns-clause-code c = c.loop-i.invariant.code
