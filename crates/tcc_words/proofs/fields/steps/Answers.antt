-- A number that is few enough is none that stands for no number.
use Rattle.std.proofs.Common.{◌≤◌, arith}
use Rattle.tcc_words.proofs.fields.steps.Goals as goal

pub returns-then-steps-most_steps-clause-said : goal.returns-then-steps-most_steps-clause-said
returns-then-steps-most_steps-clause-said c =
    let few : c.said_or-steps.result ≤ c.most_steps.result = omega (arith, c.if-steps-most_steps.true) in
    let most = c.most_steps.ensures.most in
    c.said_or-steps.ensures.other (λ e. omega (arith, e, few, most))

pub returns-then-steps-most_steps-clause-allowed : goal.returns-then-steps-most_steps-clause-allowed
returns-then-steps-most_steps-clause-allowed c =
    let few : c.said_or-steps.result ≤ c.most_steps.result = omega (arith, c.if-steps-most_steps.true) in
    let most = c.most_steps.ensures.most in (
      c.said_or-steps.result,
      c.said_or-steps.ensures.other (λ e. omega (arith, e, few, most)),
      (c.most_steps.ensures.few c.said_or-steps.result).0 few,
    )
