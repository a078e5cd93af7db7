use Rattle.std.proofs.Common.{refl, ◌≡◌, Some, ◌+◌, ◌≤◌, arith, subst}
use Rattle.image_load.specs.Contents.{started}
use Rattle.rv_code.specs.Machine.{program}
use Rattle.rv_plain.specs.Attempts.{attempt_of}
use Rattle.rv_plain.specs.Buffered.{plain_view}
use Rattle.rv_exec.specs.declared.outcome.Outcome.TheVariants.{Goes}
use Rattle.rules_program.specs.Plain.{steps}
use Rattle.run_outcomes.proofs.next.run_to_end.Goals as goal
use Rattle.rv_plain.proofs.Lemmas.{steps-next}

pub loop-k-init : goal.loop-k-init
unfolding steps
loop-k-init c = (refl, c.requires.fresh, refl)

pub returns-then-has_ended-clause-runs : goal.returns-then-has_ended-clause-runs
unfolding attempt_of
returns-then-has_ended-clause-runs c =
    let base = c.args.code.now.settings.base in
    let p = program (started c.args.code.now) in
    let start = plain_view (attempt_of c.args.attempt.now c.args.memory.now Goes) in
    let last = attempt_of c.step.new.self c.step.new.memory c.in_ok-outcome.outcome in
    let next = steps-next base p c.loop-k.k start (attempt_of c.loop-k.attempt c.loop-k.memory Goes) last refl
    c.loop-k.invariant.0 c.in_ok-outcome.ensures.does in
    let counted : c.step.new.self.n ≡ c.loop-k.k + 1 = grind arith in
    let few : c.step.new.self.n ≤ c.args.longest = grind arith in
    (subst (λ n. steps base p n start ≡ Some (plain_view last)) (grind arith) next, c.has_ended.ensures.ended.0 c.if-has_ended.true, few)

pub loop-k-preserved : goal.loop-k-preserved
unfolding attempt_of
loop-k-preserved c =
    let base = c.args.code.now.settings.base in
    let p = program (started c.args.code.now) in
    let start = plain_view (attempt_of c.args.attempt.now c.args.memory.now Goes) in
    let last = attempt_of c.step.new.self c.step.new.memory c.in_ok-outcome.outcome in
    let next = steps-next base p c.loop-k.k start (attempt_of c.loop-k.attempt c.loop-k.memory Goes) last refl
    c.loop-k.invariant.0 c.in_ok-outcome.ensures.does in (
      subst
          (λ o. steps base p (c.loop-k.k + 1) start ≡ Some (plain_view (attempt_of c.step.new.self c.step.new.memory o)))
          (c.if-has_ended.ensures.goes refl) next,
      grind arith,
      grind arith,
    )
