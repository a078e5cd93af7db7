-- Both are so.
use Rattle.std.proofs.Common.{◌≡◌, true, false, ◌∙◌, ap, refl, arith}
use Rattle.std.specs.Prelude.{get_or, is_some, nat_lt}
use Rattle.std.proofs.lemmas.Bool.Decides.{nat_tests}
use Rattle.net_core.specs.Answers.{step_of}
use Rattle.tcc_phase.specs.Requests.{is_above}
use Rattle.tcc_phase.proofs.standing.is_above.Goals as goal

pub returns-then-least-own : goal.returns-then-least-own
unfolding is_above
returns-then-least-own c =
    let above = c.if-least-own.true in
    let t : nat_lt c.args.least (get_or c.args.own.now c.args.core 0) ≡ true = grind (arith, nat_tests) in
    rw t (c.enabled.ensures ∙ ap (λ e. is_some (step_of c.args.system.now e)) c.request.ensures)

pub returns-else-least-own : goal.returns-else-least-own
unfolding is_above
returns-else-least-own c =
    let above = c.if-least-own.false in
    let t : nat_lt c.args.least (get_or c.args.own.now c.args.core 0) ≡ false = grind (arith, nat_tests) in
    rw t refl
