use Rattle.std.proofs.Common.{refl, ◌≡◌, ℕ, Option, Some, ◌+◌, arith, subst}
use Rattle.image_load.specs.Contents.{started}
use Rattle.rv_plain.proofs.Faults.{fault-early, fault-past}
use Rattle.rv_plain.proofs.Views.{steps-next}
use Rattle.rv_plain.specs.Attempts.{attempt_of}
use Rattle.rv_plain.specs.Buffered.{plain_view}
use Rattle.rv_code.specs.Machine.{program}
use Rattle.rv_exec.specs.declared.outcome.Outcome.TheVariants.{Goes}
use Rattle.rules_program.specs.Plain.{Attempt, steps}
use Rattle.rv_plain.proofs.attempt.Attempt.run.Goals as goal

pub loop-k-init : goal.loop-k-init
unfolding steps
loop-k-init c = (refl, c.requires.fresh, refl)

pub returns-then-k-n-clause-runs : goal.returns-then-k-n-clause-runs
unfolding attempt_of
returns-then-k-n-clause-runs c =
    let base = c.args.code.now.settings.base in
    let p = program (started c.args.code.now) in
    let start = plain_view (attempt_of c.args.self.now c.args.memory.now Goes) in
    let next = steps-next base p c.loop-k.k start (attempt_of c.loop-k.self c.loop-k.memory Goes)
    (attempt_of c.step.new.self c.step.new.memory c.in-Ok.outcome) refl c.loop-k.invariant.0 c.in-Ok.ensures.does in
    (rw (← c.if-k-n.true) next, c.if-has_ended.ensures.ended.0 refl)

pub returns-else-k-n-clause-fault : goal.returns-else-k-n-clause-fault
unfolding attempt_of plain_view
returns-else-k-n-clause-fault c =
    let base = c.args.code.now.settings.base in
    let p = program (started c.args.code.now) in
    let start = plain_view (attempt_of c.args.self.now c.args.memory.now Goes) in
    let st : ℕ → Option Attempt = λ k. steps base p k start in
    let next = steps-next base p c.loop-k.k start (attempt_of c.loop-k.self c.loop-k.memory Goes)
    (attempt_of c.step.new.self c.step.new.memory c.in-Ok.outcome) refl c.loop-k.invariant.0 c.in-Ok.ensures.does in
    fault-early st c.args.n c.loop-k.k (plain_view (attempt_of c.step.new.self c.step.new.memory c.in-Ok.outcome))
    c.loop-k-test.true c.if-k-n.false next (c.if-has_ended.ensures.ended.0 refl)

pub loop-k-preserved : goal.loop-k-preserved
unfolding attempt_of
loop-k-preserved c =
    let base = c.args.code.now.settings.base in
    let p = program (started c.args.code.now) in
    let start = plain_view (attempt_of c.args.self.now c.args.memory.now Goes) in
    let next = steps-next base p c.loop-k.k start (attempt_of c.loop-k.self c.loop-k.memory Goes)
    (attempt_of c.step.new.self c.step.new.memory c.in-Ok.outcome) refl c.loop-k.invariant.0 c.in-Ok.ensures.does in (
      subst
          (λ o. steps base p (c.loop-k.k + 1) start ≡ Some (plain_view (attempt_of c.step.new.self c.step.new.memory o)))
          (c.if-has_ended.ensures.goes refl) next,
      grind arith,
      grind arith,
    )

pub returns-clause-fault : goal.returns-clause-fault
unfolding attempt_of plain_view
returns-clause-fault c =
    let base = c.args.code.now.settings.base in
    let p = program (started c.args.code.now) in
    let start = plain_view (attempt_of c.args.self.now c.args.memory.now Goes) in
    let st : ℕ → Option Attempt = λ k. steps base p k start in
    let last : c.loop-k.k ≡ c.args.n = grind (arith, c.loop-k.auto.k-end) in
    fault-past st c.args.n (plain_view (attempt_of c.loop-k.self c.loop-k.memory Goes)) (rw (← last) c.loop-k.invariant.0) refl
